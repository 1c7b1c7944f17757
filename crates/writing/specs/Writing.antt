-- Writing a plan in memory as its file: the answer, by the image and the room that is lent, and what the lent memory then holds.
use Rattle.std.specs.Prelude.{ℕ, cond, List, ◌++◌, ltb, length, drop, Err, Ok, Result}
use Rattle.plan.specs.File.{file_of}
use Rattle.plan.specs.Image.{plan_of}
use Rattle.images.specs.Images.{standing}
use Rattle.writing.specs.declared.Unwritten.{Unwritten}
use Rattle.writing.specs.declared.Unwritten.TheVariants.{NoFile, NoRoom}

-- The number of each answer, and the length that it holds: 7 and 6 are document 02's, and what it doesn't number has one of ours.

abbrev pub unwritten_number : Unwritten → ℕ
unwritten_number NoFile = 7
unwritten_number NoRoom = 6

abbrev pub written_number : Result ℕ Unwritten → ℕ
written_number (Err why) = unwritten_number why
written_number (Ok size) = 120

abbrev pub written_length : Result ℕ Unwritten → ℕ
written_length (Err why) = 0
written_length (Ok size) = size

-- the file of the plan that an image shows
unfoldable pub file_in : List ℕ → List ℕ
file_in image = file_of (plan_of image)

-- 7 where no file reads as the image; then 6 where the room is shorter than the file
unfoldable pub written : List ℕ → ℕ → Result ℕ Unwritten
written image room = cond (standing image) (cond (ltb room (length (file_in image))) (Err NoRoom) (Ok (length (file_in image)))) (Err NoFile)

-- a refusal leaves the memory as it was; else the file stands at its front, and past it what was there
unfoldable pub after_writing : List ℕ → Result ℕ Unwritten → List ℕ → List ℕ
after_writing image (Err why) out = out
after_writing image (Ok size) out = file_in image ++ drop (length (file_in image)) out
