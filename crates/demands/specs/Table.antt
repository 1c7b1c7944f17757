-- The starred slips of document 01, the bench session, a train in the way of an entry and of a request, and points that several routes hold, as one table: the bytes of a plan file, the
-- bytes of its events, and the text that is printed. One claim over it (proofs/Table.antt) is computed from the definitions of all rooms.
use Rattle.std.specs.Prelude.{ℕ, List, [], ◌∷◌, ◌++◌, take, set}
use Prim.Native.String.{String}

pub record Row : Type 0 where
  pub file : List ℕ
  pub events : List ℕ
  pub text : String

abbrev pub row : List ℕ → List ℕ → String → Row
row file events text = record { file = file; events = events; text = text }

-- byte by byte
unfoldable pub bench : List ℕ
bench =
    4 ∷ 0 ∷ 2 ∷ 0 ∷ 0 ∷ 0 ∷ 2 ∷ 0 ∷ 0 ∷ 2 ∷ 3 ∷ 0 ∷ 1 ∷ 3 ∷ 0 ∷ 0 ∷ 0 ∷ 2 ∷ 0 ∷ 1 ∷ 2 ∷ 0 ∷ 2 ∷ 2 ∷ 3 ∷ 2 ∷ 2 ∷ 3 ∷ 1 ∷ 2 ∷ 0 ∷ 1 ∷ 3 ∷ 2 ∷ 1 ∷ 2 ∷ 2 ∷ 3 ∷ 2 ∷ 2 ∷ 3 ∷ 0 ∷ 1 ∷ 2 ∷ 1 ∷ 3 ∷ 2 ∷ 2 ∷ 0 ∷ 1 ∷ 0 ∷ 1 ∷ 1 ∷ 1 ∷ []

unfoldable pub table : List Row
table =
    -- the bench session
    row (bench) (3 ∷ 0 ∷ 1 ∷ 4 ∷ 1 ∷ 0 ∷ 1 ∷ 0 ∷ 0 ∷ 1 ∷ 1 ∷ 0 ∷ 4 ∷ 1 ∷ 0 ∷ 4 ∷ 1 ∷ 0 ∷ 4 ∷ 1 ∷ 0 ∷ 1 ∷ 1 ∷ 0 ∷ []) "accepted\nentered 1 track 0\nrefused 19 signal 0\ngranted 0\nrefused 14 point 2\nmoved 1 from 0 to 2\nmoved 1 from 2 to 3\nleft 1 from 3\ngranted 1\n"
    -- an empty file
    ∷ row ([]) (3 ∷ 0 ∷ 1 ∷ 4 ∷ 1 ∷ 0 ∷ 1 ∷ 0 ∷ 0 ∷ 1 ∷ 1 ∷ 0 ∷ 4 ∷ 1 ∷ 0 ∷ 4 ∷ 1 ∷ 0 ∷ 4 ∷ 1 ∷ 0 ∷ 1 ∷ 1 ∷ 0 ∷ []) "form 1 at 0\n"
    -- byte 0 alone
    ∷ row (0 ∷ []) (3 ∷ 0 ∷ 1 ∷ 4 ∷ 1 ∷ 0 ∷ 1 ∷ 0 ∷ 0 ∷ 1 ∷ 1 ∷ 0 ∷ 4 ∷ 1 ∷ 0 ∷ 4 ∷ 1 ∷ 0 ∷ 4 ∷ 1 ∷ 0 ∷ 1 ∷ 1 ∷ 0 ∷ []) "form 2 at 0\n"
    -- the first 53 bytes
    ∷ row (take 53 bench) (3 ∷ 0 ∷ 1 ∷ 4 ∷ 1 ∷ 0 ∷ 1 ∷ 0 ∷ 0 ∷ 1 ∷ 1 ∷ 0 ∷ 4 ∷ 1 ∷ 0 ∷ 4 ∷ 1 ∷ 0 ∷ 4 ∷ 1 ∷ 0 ∷ 1 ∷ 1 ∷ 0 ∷ []) "form 1 at 53\n"
    -- one byte more
    ∷ row (bench ++ (0 ∷ [])) (3 ∷ 0 ∷ 1 ∷ 4 ∷ 1 ∷ 0 ∷ 1 ∷ 0 ∷ 0 ∷ 1 ∷ 1 ∷ 0 ∷ 4 ∷ 1 ∷ 0 ∷ 4 ∷ 1 ∷ 0 ∷ 4 ∷ 1 ∷ 0 ∷ 1 ∷ 1 ∷ 0 ∷ []) "form 5 at 54\n"
    -- byte 1 made 4
    ∷ row (set bench 1 4) (3 ∷ 0 ∷ 1 ∷ 4 ∷ 1 ∷ 0 ∷ 1 ∷ 0 ∷ 0 ∷ 1 ∷ 1 ∷ 0 ∷ 4 ∷ 1 ∷ 0 ∷ 4 ∷ 1 ∷ 0 ∷ 4 ∷ 1 ∷ 0 ∷ 1 ∷ 1 ∷ 0 ∷ []) "form 3 at 1\n"
    -- byte 29 made 0
    ∷ row (set bench 29 0) (3 ∷ 0 ∷ 1 ∷ 4 ∷ 1 ∷ 0 ∷ 1 ∷ 0 ∷ 0 ∷ 1 ∷ 1 ∷ 0 ∷ 4 ∷ 1 ∷ 0 ∷ 4 ∷ 1 ∷ 0 ∷ 4 ∷ 1 ∷ 0 ∷ 1 ∷ 1 ∷ 0 ∷ []) "form 3 at 29\n"
    -- bytes 26 and 27 made 3 and 2
    ∷ row (set (set bench 26 3) 27 2) (3 ∷ 0 ∷ 1 ∷ 4 ∷ 1 ∷ 0 ∷ 1 ∷ 0 ∷ 0 ∷ 1 ∷ 1 ∷ 0 ∷ 4 ∷ 1 ∷ 0 ∷ 4 ∷ 1 ∷ 0 ∷ 4 ∷ 1 ∷ 0 ∷ 1 ∷ 1 ∷ 0 ∷ []) "form 4 at 27\n"
    -- entry 0's list empty
    ∷ row (4 ∷ 0 ∷ 2 ∷ 0 ∷ 0 ∷ 0 ∷ 2 ∷ 0 ∷ 0 ∷ 2 ∷ 3 ∷ 0 ∷ 1 ∷ 3 ∷ 0 ∷ 0 ∷ 0 ∷ 2 ∷ 0 ∷ 1 ∷ 2 ∷ 0 ∷ 2 ∷ 2 ∷ 3 ∷ 2 ∷ 2 ∷ 3 ∷ 1 ∷ 2 ∷ 0 ∷ 1 ∷ 3 ∷ 2 ∷ 1 ∷ 2 ∷ 2 ∷ 3 ∷ 2 ∷ 2 ∷ 3 ∷ 0 ∷ 1 ∷ 2 ∷ 1 ∷ 3 ∷ 2 ∷ 2 ∷ 0 ∷ 0 ∷ 1 ∷ 1 ∷ 1 ∷ []) (3 ∷ 0 ∷ 1 ∷ 3 ∷ 0 ∷ 2 ∷ []) "rule 12 row 0\nentered 1 track 0\naccident 40 track 0\n"
    -- route 0's clear list empty
    ∷ row (4 ∷ 0 ∷ 2 ∷ 0 ∷ 0 ∷ 0 ∷ 2 ∷ 0 ∷ 0 ∷ 2 ∷ 3 ∷ 0 ∷ 1 ∷ 3 ∷ 0 ∷ 0 ∷ 0 ∷ 2 ∷ 0 ∷ 1 ∷ 2 ∷ 0 ∷ 2 ∷ 2 ∷ 3 ∷ 0 ∷ 1 ∷ 2 ∷ 0 ∷ 1 ∷ 3 ∷ 2 ∷ 1 ∷ 2 ∷ 2 ∷ 3 ∷ 2 ∷ 2 ∷ 3 ∷ 0 ∷ 1 ∷ 2 ∷ 1 ∷ 3 ∷ 2 ∷ 2 ∷ 0 ∷ 1 ∷ 0 ∷ 1 ∷ 1 ∷ 1 ∷ []) ([]) "rule 8 row 0\n"
    -- or only 2
    ∷ row (4 ∷ 0 ∷ 2 ∷ 0 ∷ 0 ∷ 0 ∷ 2 ∷ 0 ∷ 0 ∷ 2 ∷ 3 ∷ 0 ∷ 1 ∷ 3 ∷ 0 ∷ 0 ∷ 0 ∷ 2 ∷ 0 ∷ 1 ∷ 2 ∷ 0 ∷ 2 ∷ 2 ∷ 3 ∷ 1 ∷ 2 ∷ 1 ∷ 2 ∷ 0 ∷ 1 ∷ 3 ∷ 2 ∷ 1 ∷ 2 ∷ 2 ∷ 3 ∷ 2 ∷ 2 ∷ 3 ∷ 0 ∷ 1 ∷ 2 ∷ 1 ∷ 3 ∷ 2 ∷ 2 ∷ 0 ∷ 1 ∷ 0 ∷ 1 ∷ 1 ∷ 1 ∷ []) ([]) "rule 8 row 0\n"
    -- route 0 with no points and no releases
    ∷ row (4 ∷ 0 ∷ 2 ∷ 0 ∷ 0 ∷ 0 ∷ 2 ∷ 0 ∷ 0 ∷ 2 ∷ 3 ∷ 0 ∷ 1 ∷ 3 ∷ 0 ∷ 0 ∷ 0 ∷ 2 ∷ 0 ∷ 1 ∷ 2 ∷ 0 ∷ 2 ∷ 2 ∷ 3 ∷ 2 ∷ 2 ∷ 3 ∷ 0 ∷ 0 ∷ 0 ∷ 1 ∷ 2 ∷ 2 ∷ 3 ∷ 2 ∷ 2 ∷ 3 ∷ 0 ∷ 1 ∷ 2 ∷ 1 ∷ 3 ∷ 2 ∷ 2 ∷ 0 ∷ 1 ∷ 0 ∷ 1 ∷ 1 ∷ 1 ∷ []) (1 ∷ 1 ∷ 0 ∷ 2 ∷ 1 ∷ 0 ∷ 1 ∷ 0 ∷ 0 ∷ 3 ∷ 0 ∷ 1 ∷ 4 ∷ 1 ∷ 0 ∷ []) "rule 9 row 0\ngranted 1\ncancelled 1\ngranted 0\nentered 1 track 0\naccident 41 track 2\n"
    -- route 0's release (2, 2)
    ∷ row (4 ∷ 0 ∷ 2 ∷ 0 ∷ 0 ∷ 0 ∷ 2 ∷ 0 ∷ 0 ∷ 2 ∷ 3 ∷ 0 ∷ 1 ∷ 3 ∷ 0 ∷ 0 ∷ 0 ∷ 2 ∷ 0 ∷ 1 ∷ 2 ∷ 0 ∷ 2 ∷ 2 ∷ 3 ∷ 2 ∷ 2 ∷ 3 ∷ 1 ∷ 2 ∷ 0 ∷ 1 ∷ 2 ∷ 2 ∷ 1 ∷ 2 ∷ 2 ∷ 3 ∷ 2 ∷ 2 ∷ 3 ∷ 0 ∷ 1 ∷ 2 ∷ 1 ∷ 3 ∷ 2 ∷ 2 ∷ 0 ∷ 1 ∷ 0 ∷ 1 ∷ 1 ∷ 1 ∷ []) ([]) "rule 11 row 0\n"
    -- and route 1's clear list empty as well
    ∷ row (4 ∷ 0 ∷ 2 ∷ 0 ∷ 0 ∷ 0 ∷ 2 ∷ 0 ∷ 0 ∷ 2 ∷ 3 ∷ 0 ∷ 1 ∷ 3 ∷ 0 ∷ 0 ∷ 0 ∷ 2 ∷ 0 ∷ 1 ∷ 2 ∷ 0 ∷ 2 ∷ 2 ∷ 3 ∷ 2 ∷ 2 ∷ 3 ∷ 1 ∷ 2 ∷ 0 ∷ 1 ∷ 2 ∷ 2 ∷ 1 ∷ 2 ∷ 2 ∷ 3 ∷ 0 ∷ 0 ∷ 1 ∷ 2 ∷ 1 ∷ 3 ∷ 2 ∷ 2 ∷ 0 ∷ 1 ∷ 0 ∷ 1 ∷ 1 ∷ 1 ∷ []) (3 ∷ 0 ∷ 1 ∷ 1 ∷ 0 ∷ 0 ∷ 4 ∷ 1 ∷ 0 ∷ 1 ∷ 1 ∷ 0 ∷ []) "rule 8 row 1\nentered 1 track 0\ngranted 0\nmoved 1 from 0 to 2\naccident 42 point 2\n"
    -- with route 0's clear list 1, 2, 3 and entry 0's 0, 1, 3: 13 names the lowest track of the list that has a train, and the train that stands there,
    -- be its number the higher or the lower of two; not the train that would come in, not that of track 0, of the entry's track or of the list's first
    ∷ row (4 ∷ 0 ∷ 2 ∷ 0 ∷ 0 ∷ 0 ∷ 2 ∷ 0 ∷ 0 ∷ 2 ∷ 3 ∷ 0 ∷ 1 ∷ 3 ∷ 0 ∷ 0 ∷ 0 ∷ 2 ∷ 0 ∷ 1 ∷ 2 ∷ 0 ∷ 2 ∷ 2 ∷ 3 ∷ 3 ∷ 1 ∷ 2 ∷ 3 ∷ 1 ∷ 2 ∷ 0 ∷ 1 ∷ 3 ∷ 2 ∷ 1 ∷ 2 ∷ 2 ∷ 3 ∷ 2 ∷ 2 ∷ 3 ∷ 0 ∷ 1 ∷ 2 ∷ 1 ∷ 3 ∷ 2 ∷ 2 ∷ 0 ∷ 3 ∷ 0 ∷ 1 ∷ 3 ∷ 1 ∷ 1 ∷ 1 ∷ []) (3 ∷ 0 ∷ 200 ∷ 1 ∷ 0 ∷ 0 ∷ 4 ∷ 200 ∷ 0 ∷ 4 ∷ 200 ∷ 0 ∷ 3 ∷ 1 ∷ 9 ∷ 1 ∷ 1 ∷ 0 ∷ 3 ∷ 0 ∷ 7 ∷ 1 ∷ 0 ∷ 0 ∷ 4 ∷ 200 ∷ 0 ∷ 1 ∷ 1 ∷ 0 ∷ 4 ∷ 9 ∷ 0 ∷ 4 ∷ 9 ∷ 0 ∷ 3 ∷ 1 ∷ 100 ∷ 3 ∷ 0 ∷ 7 ∷ 1 ∷ 0 ∷ 0 ∷ []) "accepted\nentered 200 track 0\ngranted 0\nmoved 200 from 0 to 2\nmoved 200 from 2 to 3\nentered 9 track 1\nrefused 13 track 3 train 200\nrefused 13 track 1 train 9\nrefused 13 track 1 train 9\nleft 200 from 3\ngranted 1\nmoved 9 from 1 to 2\nmoved 9 from 2 to 3\nentered 100 track 1\nrefused 13 track 1 train 100\nrefused 13 track 1 train 100\n"
    -- two trains follow each other through point 1 (two facing points; routes 0 and 1 list point 1 normal and go apart at point 2, route 2 lists 1 reverse):
    -- both routes hold it, a cancel of one leaves the other's hold, and so does a release; of two held points the one that lies right is not named. 12
    -- comes before 13 and 14, and 13 before 14
    ∷ row (8 ∷ 0 ∷ 1 ∷ 0 ∷ 0 ∷ 1 ∷ 2 ∷ 3 ∷ 0 ∷ 1 ∷ 4 ∷ 5 ∷ 0 ∷ 3 ∷ 0 ∷ 0 ∷ 0 ∷ 0 ∷ 6 ∷ 0 ∷ 0 ∷ 0 ∷ 7 ∷ 0 ∷ 0 ∷ 3 ∷ 0 ∷ 0 ∷ 0 ∷ 3 ∷ 0 ∷ 0 ∷ 0 ∷ 1 ∷ 0 ∷ 3 ∷ 0 ∷ 4 ∷ 1 ∷ 2 ∷ 4 ∷ 6 ∷ 4 ∷ 1 ∷ 2 ∷ 4 ∷ 6 ∷ 2 ∷ 1 ∷ 2 ∷ 0 ∷ 2 ∷ 6 ∷ 1 ∷ 4 ∷ 2 ∷ 0 ∷ 4 ∷ 1 ∷ 2 ∷ 5 ∷ 7 ∷ 4 ∷ 1 ∷ 2 ∷ 5 ∷ 7 ∷ 1 ∷ 1 ∷ 1 ∷ 2 ∷ 2 ∷ 7 ∷ 1 ∷ 7 ∷ 2 ∷ 0 ∷ 2 ∷ 1 ∷ 3 ∷ 2 ∷ 1 ∷ 3 ∷ 0 ∷ 1 ∷ 1 ∷ 1 ∷ 3 ∷ 1 ∷ 1 ∷ 0 ∷ 1 ∷ 0 ∷ []) (3 ∷ 0 ∷ 1 ∷ 1 ∷ 0 ∷ 0 ∷ 4 ∷ 1 ∷ 0 ∷ 1 ∷ 2 ∷ 0 ∷ 4 ∷ 1 ∷ 0 ∷ 4 ∷ 1 ∷ 0 ∷ 1 ∷ 1 ∷ 0 ∷ 1 ∷ 0 ∷ 0 ∷ 1 ∷ 2 ∷ 0 ∷ 2 ∷ 1 ∷ 0 ∷ 1 ∷ 2 ∷ 0 ∷ 1 ∷ 1 ∷ 0 ∷ 4 ∷ 1 ∷ 0 ∷ 4 ∷ 1 ∷ 0 ∷ 3 ∷ 0 ∷ 2 ∷ 4 ∷ 2 ∷ 0 ∷ 4 ∷ 2 ∷ 0 ∷ 4 ∷ 2 ∷ 0 ∷ 1 ∷ 2 ∷ 0 ∷ 1 ∷ 0 ∷ 0 ∷ 4 ∷ 2 ∷ 0 ∷ 1 ∷ 2 ∷ 0 ∷ []) "accepted\nentered 1 track 0\ngranted 0\nmoved 1 from 0 to 1\nrefused 13 track 1 train 1\nmoved 1 from 1 to 2\nmoved 1 from 2 to 4\ngranted 1\nrefused 12\nrefused 12\ncancelled 1\nrefused 14 point 1\ngranted 1\nmoved 1 from 4 to 6\nleft 1 from 6\nentered 2 track 0\nmoved 2 from 0 to 1\nmoved 2 from 1 to 2\nmoved 2 from 2 to 5\nrefused 14 point 1\nrefused 14 point 2\nmoved 2 from 5 to 7\ngranted 2\n"
    -- route 0's point in both lists, its clear list empty, and a route 2 that lists the point normal: reverse wins, so that what holds it reverse is not in
    -- the way of route 0, and what holds it normal is; and route 0 holds it
    ∷ row (4 ∷ 0 ∷ 2 ∷ 0 ∷ 0 ∷ 0 ∷ 2 ∷ 0 ∷ 0 ∷ 2 ∷ 3 ∷ 0 ∷ 1 ∷ 3 ∷ 0 ∷ 0 ∷ 0 ∷ 2 ∷ 0 ∷ 1 ∷ 3 ∷ 0 ∷ 2 ∷ 2 ∷ 3 ∷ 0 ∷ 1 ∷ 2 ∷ 1 ∷ 2 ∷ 1 ∷ 3 ∷ 2 ∷ 1 ∷ 2 ∷ 2 ∷ 3 ∷ 2 ∷ 2 ∷ 3 ∷ 0 ∷ 1 ∷ 2 ∷ 1 ∷ 3 ∷ 2 ∷ 1 ∷ 2 ∷ 2 ∷ 3 ∷ 2 ∷ 2 ∷ 3 ∷ 1 ∷ 2 ∷ 0 ∷ 1 ∷ 3 ∷ 2 ∷ 2 ∷ 0 ∷ 1 ∷ 0 ∷ 1 ∷ 1 ∷ 1 ∷ []) (1 ∷ 1 ∷ 0 ∷ 1 ∷ 0 ∷ 0 ∷ 2 ∷ 1 ∷ 0 ∷ 1 ∷ 2 ∷ 0 ∷ 1 ∷ 1 ∷ 0 ∷ 2 ∷ 0 ∷ 0 ∷ 2 ∷ 1 ∷ 0 ∷ 1 ∷ 2 ∷ 0 ∷ 1 ∷ 0 ∷ 0 ∷ 2 ∷ 2 ∷ 0 ∷ 1 ∷ 0 ∷ 0 ∷ []) "rule 8 row 0\ngranted 1\ngranted 0\ncancelled 1\nrefused 14 point 2\ngranted 1\ncancelled 0\ncancelled 1\ngranted 2\nrefused 14 point 2\ncancelled 2\ngranted 0\n"
    ∷ []
