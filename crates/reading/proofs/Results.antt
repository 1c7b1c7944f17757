-- Written by .ci/contracts --write: for each function of src/lib.rt, that any two results that its contract allows are the same.
use Rattle.reading.specs.declared.Form.{Form}
use Rattle.std.specs.Prelude.{ℕ, ◌≡◌ as ◌is◌, List, Result, Bool, ◌≡◌, length}
use Rattle.laws.specs.Once.{equal_once}
use Rattle.plan.specs.Kinds.{is_point, limit_of}
use Rattle.reading.specs.Calls.{IsStep, IsTest, Step, byte_at, counted_steps, freed, repeated, stepped}
use Rattle.reading.specs.Reading.{above, after_entry, after_release, below, count, entry, entry_section, form_number, form_offset, number, path_list, point_list, release, release_list, rising_list, route, route_section, scanned, track, track_section}
use Rattle.plan.specs.Image.{plan_of}

pub form_number_once : (self : Form) (r r₂ : ℕ)
    → (r ≡ form_number self)
    → (r₂ ≡ form_number self)
    → r is r₂
form_number_once self r r₂ by_one by_other = equal_once _ _ _ by_one by_other

pub form_offset_once : (self : Form) (r r₂ : ℕ)
    → (r ≡ form_offset self)
    → (r₂ ≡ form_offset self)
    → r is r₂
form_offset_once self r r₂ by_one by_other = equal_once _ _ _ by_one by_other

pub byte_at_once : (file : List ℕ) (at : ℕ) (r r₂ : Result ℕ Form)
    → (r ≡ byte_at file at)
    → (r₂ ≡ byte_at file at)
    → r is r₂
byte_at_once file at r r₂ by_one by_other = equal_once _ _ _ by_one by_other

pub fitting_once : (F : Type 0) (F_post : F → ℕ → Bool → Type 0) (file : List ℕ) (at least : ℕ) (fits : F) (r r₂ : Result (ℕ × ℕ) Form) (test : ℕ → Bool)
    → IsTest (F_post fits) test
    → ((test : ℕ → Bool) → IsTest (F_post fits) test → r ≡ stepped (number test) above file at least)
    → ((test : ℕ → Bool) → IsTest (F_post fits) test → r₂ ≡ stepped (number test) above file at least)
    → r is r₂
fitting_once F F_post file at least fits r r₂ test meets_test by_one by_other = equal_once _ _ _ (by_one test meets_test) (by_other test meets_test)

pub number_step_once : (file : List ℕ) (at limit least : ℕ) (r r₂ : Result (ℕ × ℕ) Form)
    → (r ≡ stepped (number (below limit)) above file at least)
    → (r₂ ≡ stepped (number (below limit)) above file at least)
    → r is r₂
number_step_once file at limit least r r₂ by_one by_other = equal_once _ _ _ by_one by_other

pub point_step_once : (file : List ℕ) (at : ℕ) (image : List ℕ) (least : ℕ) (r r₂ : Result (ℕ × ℕ) Form)
    → (r ≡ stepped (number (is_point (plan_of image).tracks)) above file at least)
    → (r₂ ≡ stepped (number (is_point (plan_of image).tracks)) above file at least)
    → r is r₂
point_step_once file at image least r r₂ by_one by_other = equal_once _ _ _ by_one by_other

pub number_at_once : (file : List ℕ) (at limit least : ℕ) (r r₂ : Result ℕ Form)
    → (r ≡ scanned (number (below limit) least) file at)
    → (r₂ ≡ scanned (number (below limit) least) file at)
    → r is r₂
number_at_once file at limit least r r₂ by_one by_other = equal_once _ _ _ by_one by_other

pub count_of_once : (file : List ℕ) (at least most : ℕ) (r r₂ : Result ℕ Form)
    → (r ≡ scanned (count least most) file at)
    → (r₂ ≡ scanned (count least most) file at)
    → r is r₂
count_of_once file at least most r r₂ by_one by_other = equal_once _ _ _ by_one by_other

pub many_once : (F : Type 0) (F_post : F → ℕ → ℕ → (Result (ℕ × ℕ) Form) → Type 0) (from count : ℕ) (step : F) (r r₂ : Result ℕ Form) (one : Step)
    → IsStep (F_post step) one
    → ((one : Step) → IsStep (F_post step) one → r ≡ repeated one count from 0)
    → ((one : Step) → IsStep (F_post step) one → r₂ ≡ repeated one count from 0)
    → r is r₂
many_once F F_post from count step r r₂ one meets_one by_one by_other = equal_once _ _ _ (by_one one meets_one) (by_other one meets_one)

pub counted_once : (F : Type 0) (F_post : F → ℕ → ℕ → (Result (ℕ × ℕ) Form) → Type 0) (file : List ℕ) (from least most : ℕ) (step : F) (r r₂ : Result ℕ Form) (one : Step)
    → IsStep (F_post step) one
    → ((one : Step) → IsStep (F_post step) one → r ≡ counted_steps one least most file from)
    → ((one : Step) → IsStep (F_post step) one → r₂ ≡ counted_steps one least most file from)
    → r is r₂
counted_once F F_post file from least most step r r₂ one meets_one by_one by_other = equal_once _ _ _ (by_one one meets_one) (by_other one meets_one)

pub free_once : (end : Result ℕ Form) (r r₂ : Result (ℕ × ℕ) Form)
    → (r ≡ freed end)
    → (r₂ ≡ freed end)
    → r is r₂
free_once end r r₂ by_one by_other = equal_once _ _ _ by_one by_other

pub path_list_once : (file : List ℕ) (from tracks : ℕ) (r r₂ : Result ℕ Form)
    → (r ≡ scanned (path_list tracks) file from)
    → (r₂ ≡ scanned (path_list tracks) file from)
    → r is r₂
path_list_once file from tracks r r₂ by_one by_other = equal_once _ _ _ by_one by_other

pub rising_list_once : (file : List ℕ) (from tracks most : ℕ) (r r₂ : Result ℕ Form)
    → (r ≡ scanned (rising_list tracks most) file from)
    → (r₂ ≡ scanned (rising_list tracks most) file from)
    → r is r₂
rising_list_once file from tracks most r r₂ by_one by_other = equal_once _ _ _ by_one by_other

pub point_list_once : (file : List ℕ) (from : ℕ) (image : List ℕ) (r r₂ : Result ℕ Form)
    → (r ≡ scanned (point_list (plan_of image).tracks) file from)
    → (r₂ ≡ scanned (point_list (plan_of image).tracks) file from)
    → r is r₂
point_list_once file from image r r₂ by_one by_other = equal_once _ _ _ by_one by_other

pub limit_of_once : (tracks kind i r r₂ : ℕ)
    → (r ≡ limit_of tracks kind i)
    → (r₂ ≡ limit_of tracks kind i)
    → r is r₂
limit_of_once tracks kind i r r₂ by_one by_other = equal_once _ _ _ by_one by_other

pub track_at_once : (file : List ℕ) (at tracks : ℕ) (r r₂ : Result ℕ Form)
    → (r ≡ scanned (track tracks) file at)
    → (r₂ ≡ scanned (track tracks) file at)
    → r is r₂
track_at_once file at tracks r r₂ by_one by_other = equal_once _ _ _ by_one by_other

pub track_section_once : (file : List ℕ) (from : ℕ) (r r₂ : Result ℕ Form)
    → (r ≡ scanned track_section file from)
    → (r₂ ≡ scanned track_section file from)
    → r is r₂
track_section_once file from r r₂ by_one by_other = equal_once _ _ _ by_one by_other

pub release_step_once : (file : List ℕ) (at : ℕ) (image : List ℕ) (least : ℕ) (r r₂ : Result (ℕ × ℕ) Form)
    → (r ≡ stepped (release (plan_of image).tracks) after_release file at least)
    → (r₂ ≡ stepped (release (plan_of image).tracks) after_release file at least)
    → r is r₂
release_step_once file at image least r r₂ by_one by_other = equal_once _ _ _ by_one by_other

pub release_list_once : (file : List ℕ) (from : ℕ) (image : List ℕ) (r r₂ : Result ℕ Form)
    → (r ≡ scanned (release_list (plan_of image).tracks) file from)
    → (r₂ ≡ scanned (release_list (plan_of image).tracks) file from)
    → r is r₂
release_list_once file from image r r₂ by_one by_other = equal_once _ _ _ by_one by_other

pub route_at_once : (file : List ℕ) (at : ℕ) (image : List ℕ) (r r₂ : Result ℕ Form)
    → (r ≡ scanned (route (plan_of image).tracks (length (plan_of image).signals)) file at)
    → (r₂ ≡ scanned (route (plan_of image).tracks (length (plan_of image).signals)) file at)
    → r is r₂
route_at_once file at image r r₂ by_one by_other = equal_once _ _ _ by_one by_other

pub route_section_once : (file : List ℕ) (from : ℕ) (image : List ℕ) (r r₂ : Result ℕ Form)
    → (r ≡ scanned (route_section (plan_of image).tracks (length (plan_of image).signals)) file from)
    → (r₂ ≡ scanned (route_section (plan_of image).tracks (length (plan_of image).signals)) file from)
    → r is r₂
route_section_once file from image r r₂ by_one by_other = equal_once _ _ _ by_one by_other

pub entry_step_once : (file : List ℕ) (at tracks least : ℕ) (r r₂ : Result (ℕ × ℕ) Form)
    → (r ≡ stepped (entry tracks) after_entry file at least)
    → (r₂ ≡ stepped (entry tracks) after_entry file at least)
    → r is r₂
entry_step_once file at tracks least r r₂ by_one by_other = equal_once _ _ _ by_one by_other

pub entry_section_once : (file : List ℕ) (from tracks : ℕ) (r r₂ : Result ℕ Form)
    → (r ≡ scanned (entry_section tracks) file from)
    → (r₂ ≡ scanned (entry_section tracks) file from)
    → r is r₂
entry_section_once file from tracks r r₂ by_one by_other = equal_once _ _ _ by_one by_other
