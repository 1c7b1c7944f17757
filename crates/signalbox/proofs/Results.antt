-- Written by .ci/contracts --write: for each function of src/lib.rt, that any two results that its contract allows are the same.
use Rattle.std.specs.Prelude.{ℕ, ◌≡◌ as ◌is◌, List, length, Result, ◌≡◌}
use Rattle.signalbox.specs.declared.Outcome.{Outcome}
use Rattle.laws.specs.Once.{equal_once}
use Rattle.signalbox.specs.declared.Reason.{Reason}
use Rattle.signalbox.proofs.Once.{one_result}
use Rattle.state.specs.Cells.{cells_size, state_in}
use Rattle.state.proofs.Lent.{lent_once}
use Rattle.std.proofs.Common.{refl}
use Rattle.reading.specs.Reading.{parse}
use Rattle.loading.specs.Storing.{after_reading}
use Rattle.events.specs.Events.{first_event}
use Rattle.codes.specs.Codes.{check_code, read_code}
use Rattle.signalbox.specs.Face.{Feeds, Filed, Finishes, Loaded, Opened, Ran, Started, Stepped, done, not_done, readiness, reason_code}

pub outcome_done_once : (written : ℕ) (r r₂ : Outcome)
    → (r ≡ done written)
    → (r₂ ≡ done written)
    → r is r₂
outcome_done_once written r r₂ by_one by_other = equal_once _ _ _ by_one by_other

pub outcome_not_done_once : (reason : Reason) (r r₂ : Outcome)
    → (r ≡ not_done reason)
    → (r₂ ≡ not_done reason)
    → r is r₂
outcome_not_done_once reason r r₂ by_one by_other = equal_once _ _ _ by_one by_other

pub reason_code_once : (self : Reason) (r r₂ : ℕ)
    → (r ≡ reason_code self)
    → (r₂ ≡ reason_code self)
    → r is r₂
reason_code_once self r r₂ by_one by_other = equal_once _ _ _ by_one by_other

pub signalbox_load_once : (file image : List ℕ) (r r₂ : ℕ) (image' image'' : List ℕ)
    → (Loaded file image r image')
    → (Loaded file image r₂ image'')
    → (r is r₂) × (image' is image'')
signalbox_load_once file image r r₂ image' image'' by_one by_other = one_result.loaded_once _ _ _ _ _ _ by_one by_other

pub signalbox_read_once : (file : List ℕ) (r r₂ : ℕ)
    → (r ≡ read_code (parse file))
    → (r₂ ≡ read_code (parse file))
    → r is r₂
signalbox_read_once file r r₂ by_one by_other = equal_once _ _ _ by_one by_other

pub signalbox_write_once : (image out : List ℕ) (r r₂ : ℕ) (out' out'' : List ℕ)
    → (Filed image out r out')
    → (Filed image out r₂ out'')
    → (r is r₂) × (out' is out'')
signalbox_write_once image out r r₂ out' out'' by_one by_other = one_result.filed_once _ _ _ _ _ _ by_one by_other

pub signalbox_check_once : (file : List ℕ) (r r₂ : ℕ)
    → (r ≡ check_code (parse file))
    → (r₂ ≡ check_code (parse file))
    → r is r₂
signalbox_check_once file r r₂ by_one by_other = equal_once _ _ _ by_one by_other

pub signalbox_fresh_once : (cells holds unfinished cells' cells'' holds' holds'' unfinished' unfinished'' : List ℕ)
    → length cells' is cells_size
    → length cells'' is cells_size
    → (Started (state_in cells' holds') unfinished')
    → (Started (state_in cells'' holds'') unfinished'')
    → ((cells' is cells'') × (holds' is holds'')) × (unfinished' is unfinished'')
signalbox_fresh_once cells holds unfinished cells' cells'' holds' holds'' unfinished' unfinished'' sized sized_other by_one by_other = (let told = one_result.started_once _ _ _ _ by_one by_other in (lent_once _ _ _ _ _ sized sized_other told.0 refl, told.1))

pub ready_once : (file cells holds image : List ℕ) (r r₂ : Result Unit Reason) (image' image'' : List ℕ)
    → ((r ≡ readiness (parse file) (state_in cells holds)) × (image' ≡ after_reading (parse file) image))
    → ((r₂ ≡ readiness (parse file) (state_in cells holds)) × (image'' ≡ after_reading (parse file) image))
    → (r is r₂) × (image' is image'')
ready_once file cells holds image r r₂ image' image'' by_one by_other = (equal_once _ _ _ by_one.0 by_other.0, equal_once _ _ _ by_one.1 by_other.1)

pub signalbox_step_once : (file cells holds event : List ℕ) (r r₂ : ℕ) (cells' cells'' holds' holds'' : List ℕ)
    → length cells' is cells_size
    → length cells'' is cells_size
    → (Stepped (parse file) (state_in cells holds) (first_event event) r (state_in cells' holds'))
    → (Stepped (parse file) (state_in cells holds) (first_event event) r₂ (state_in cells'' holds''))
    → (r is r₂) × ((cells' is cells'') × (holds' is holds''))
signalbox_step_once file cells holds event r r₂ cells' cells'' holds' holds'' sized sized_other by_one by_other = (let told = one_result.stepped_once _ _ _ _ _ _ _ by_one by_other in (told.0, lent_once _ _ _ _ _ sized sized_other told.1 refl))

pub signalbox_run_once : (file cells holds events answers : List ℕ) (r r₂ : Outcome) (cells' cells'' holds' holds'' answers' answers'' : List ℕ)
    → length cells' is cells_size
    → length cells'' is cells_size
    → (Ran (parse file) (state_in cells holds) events answers r (state_in cells' holds') answers')
    → (Ran (parse file) (state_in cells holds) events answers r₂ (state_in cells'' holds'') answers'')
    → (r is r₂) × ((cells' is cells'') × (holds' is holds'')) × (answers' is answers'')
signalbox_run_once file cells holds events answers r r₂ cells' cells'' holds' holds'' answers' answers'' sized sized_other by_one by_other = (let told = one_result.played_once _ _ _ _ _ _ _ _ _ _ _ _ by_one by_other in (told.0, lent_once _ _ _ _ _ sized sized_other told.1 refl, told.2))

pub signalbox_open_once : (file out : List ℕ) (r r₂ : Outcome) (out' out'' : List ℕ)
    → (Opened (parse file) out r out')
    → (Opened (parse file) out r₂ out'')
    → (r is r₂) × (out' is out'')
signalbox_open_once file out r r₂ out' out'' by_one by_other = one_result.opened_once _ _ _ _ _ _ by_one by_other

pub signalbox_feed_once : (file cells holds unfinished bytes out : List ℕ) (r r₂ : Outcome) (cells' cells'' holds' holds'' unfinished' unfinished'' out' out'' : List ℕ)
    → length cells' is cells_size
    → length cells'' is cells_size
    → (Feeds (parse file) (state_in cells holds) unfinished bytes out r (state_in cells' holds') unfinished' out')
    → (Feeds (parse file) (state_in cells holds) unfinished bytes out r₂ (state_in cells'' holds'') unfinished'' out'')
    → (r is r₂) × ((cells' is cells'') × (holds' is holds'')) × (unfinished' is unfinished'') × (out' is out'')
signalbox_feed_once file cells holds unfinished bytes out r r₂ cells' cells'' holds' holds'' unfinished' unfinished'' out' out'' sized sized_other by_one by_other = (let told = one_result.answered_once _ _ _ _ _ _ _ _ _ _ _ _ _ _ _ by_one by_other in (told.0, lent_once _ _ _ _ _ sized sized_other told.1 refl, told.2, told.3))

pub signalbox_finish_once : (file cells holds unfinished out : List ℕ) (r r₂ : Outcome) (cells' cells'' holds' holds'' unfinished' unfinished'' out' out'' : List ℕ)
    → length cells' is cells_size
    → length cells'' is cells_size
    → (Finishes (parse file) (state_in cells holds) unfinished out r (state_in cells' holds') unfinished' out')
    → (Finishes (parse file) (state_in cells holds) unfinished out r₂ (state_in cells'' holds'') unfinished'' out'')
    → (r is r₂) × ((cells' is cells'') × (holds' is holds'')) × (unfinished' is unfinished'') × (out' is out'')
signalbox_finish_once file cells holds unfinished out r r₂ cells' cells'' holds' holds'' unfinished' unfinished'' out' out'' sized sized_other by_one by_other = (let told = one_result.answered_once _ _ _ _ _ _ _ _ _ _ _ _ _ _ _ by_one by_other in (told.0, lent_once _ _ _ _ _ sized sized_other told.1 refl, told.2, told.3))
