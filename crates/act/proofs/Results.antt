-- Written by .ci/contracts --write: for each function of src/lib.rt, that any two results that its contract allows are the same.
use Rattle.std.specs.Prelude.{List, ℕ, length, ◌≡◌ as ◌is◌, ◌≡◌}
use Rattle.events.specs.declared.Answer.{Answer}
use Rattle.state.specs.Cells.{cells_size, state_in}
use Rattle.state.proofs.Lent.{lent_once}
use Rattle.act.specs.declared.Due.{Due}
use Rattle.laws.specs.Once.{equal_once}
use Rattle.laws.specs.Tables.{tab}
use Rattle.plan.specs.Limits.{most_tracks, most_signals}
use Rattle.plan.specs.Image.{plan_of}
use Rattle.events.specs.After.{dropped, arrived, reddened, new_trains, new_lies, new_holds, new_signals, after_deed, after}
use Rattle.act.specs.Cells.{turned, held, released, freed}

pub act_once : (image cells holds : List ℕ) (answer : Answer) (cells' cells'' holds' holds'' : List ℕ)
    → length cells' is cells_size
    → length cells'' is cells_size
    → (state_in cells' holds' ≡ after (plan_of image) (state_in cells holds) answer)
    → (state_in cells'' holds'' ≡ after (plan_of image) (state_in cells holds) answer)
    → (cells' is cells'') × (holds' is holds'')
act_once image cells holds answer cells' cells'' holds' holds'' sized sized_other by_one by_other = lent_once _ _ _ _ _ sized sized_other by_one by_other

pub due_carry_out_once : (self : Due) (cells holds cells' cells'' holds' holds'' : List ℕ)
    → length cells' is cells_size
    → length cells'' is cells_size
    → (state_in cells' holds' ≡ after_deed (plan_of self.image.now) (state_in cells holds) self.deed)
    → (state_in cells'' holds'' ≡ after_deed (plan_of self.image.now) (state_in cells holds) self.deed)
    → (cells' is cells'') × (holds' is holds'')
due_carry_out_once self cells holds cells' cells'' holds' holds'' sized sized_other by_one by_other = lent_once _ _ _ _ _ sized sized_other by_one by_other

pub due_trains_once : (self : Due) (trains trains' trains'' : List ℕ)
    → (trains' ≡ new_trains trains self.deed)
    → (trains'' ≡ new_trains trains self.deed)
    → trains' is trains''
due_trains_once self trains trains' trains'' by_one by_other = equal_once _ _ _ by_one by_other

pub due_lies_once : (self : Due) (lies lies' lies'' : List ℕ)
    → (lies' ≡ new_lies (plan_of self.image.now) lies self.deed)
    → (lies'' ≡ new_lies (plan_of self.image.now) lies self.deed)
    → lies' is lies''
due_lies_once self lies lies' lies'' by_one by_other = equal_once _ _ _ by_one by_other

pub due_signals_once : (self : Due) (signals signals' signals'' : List ℕ)
    → (signals' ≡ new_signals (plan_of self.image.now) signals self.deed)
    → (signals'' ≡ new_signals (plan_of self.image.now) signals self.deed)
    → signals' is signals''
due_signals_once self signals signals' signals'' by_one by_other = equal_once _ _ _ by_one by_other

pub due_holds_once : (self : Due) (holds holds' holds'' : List ℕ)
    → (holds' ≡ new_holds (plan_of self.image.now) holds self.deed)
    → (holds'' ≡ new_holds (plan_of self.image.now) holds self.deed)
    → holds' is holds''
due_holds_once self holds holds' holds'' by_one by_other = equal_once _ _ _ by_one by_other

pub due_arrive_once : (self : Due) (to : ℕ) (holds holds' holds'' : List ℕ)
    → (holds' ≡ tab most_tracks (arrived (plan_of self.image.now) to holds))
    → (holds'' ≡ tab most_tracks (arrived (plan_of self.image.now) to holds))
    → holds' is holds''
due_arrive_once self to holds holds' holds'' by_one by_other = equal_once _ _ _ by_one by_other

pub turn_once : (list : List ℕ) (lie : ℕ) (lies lies' lies'' : List ℕ)
    → (lies' ≡ tab (length lies) (turned list lie lies))
    → (lies'' ≡ tab (length lies) (turned list lie lies))
    → lies' is lies''
turn_once list lie lies lies' lies'' by_one by_other = equal_once _ _ _ by_one by_other

pub take_once : (list : List ℕ) (route : ℕ) (holds holds' holds'' : List ℕ)
    → (holds' ≡ tab (length holds) (held list route holds))
    → (holds'' ≡ tab (length holds) (held list route holds))
    → holds' is holds''
take_once list route holds holds' holds'' by_one by_other = equal_once _ _ _ by_one by_other

pub drop_all_once : (route : ℕ) (holds holds' holds'' : List ℕ)
    → (holds' ≡ tab (length holds) (dropped route holds))
    → (holds'' ≡ tab (length holds) (dropped route holds))
    → holds' is holds''
drop_all_once route holds holds' holds'' by_one by_other = equal_once _ _ _ by_one by_other

pub give_back_once : (releases : List ℕ) (to route : ℕ) (holds holds' holds'' : List ℕ)
    → (holds' ≡ tab (length holds) (freed (released to releases) route holds))
    → (holds'' ≡ tab (length holds) (freed (released to releases) route holds))
    → holds' is holds''
give_back_once releases to route holds holds' holds'' by_one by_other = equal_once _ _ _ by_one by_other

pub redden_once : (image : List ℕ) (from : ℕ) (signals signals' signals'' : List ℕ)
    → (signals' ≡ tab most_signals (reddened (plan_of image) from signals))
    → (signals'' ≡ tab most_signals (reddened (plan_of image) from signals))
    → signals' is signals''
redden_once image from signals signals' signals'' by_one by_other = equal_once _ _ _ by_one by_other
