-- What a function that writes bytes, or codes, into lent memory hands back and leaves there, and how one run after another is written: a byte, a list
-- byte by byte, and into the part of the memory that starts where what stands before it ended.
use Rattle.std.specs.Prelude.{◌≡◌, refl, List, [], ◌∷◌, ◌++◌, ℕ, zero, suc, ◌+◌, ◌-◌, ◌<◌, ◌≤◌, length, get_or, take, drop, set}
use Rattle.std.proofs.Common.{sym, ap, ◌∙◌, append-nil, arith, add-one, add-zero, zero-add, add-suc, suc-add, length-append, length-drop, drop_of_length-le, length-set, drop-cons, take_all}
use Rattle.std.proofs.lemmas.List.Edits.{sets, sets-eq}
use Rattle.std.proofs.Math.Seq.{length-sets}
use borrow.Rule.Slice.PartMut.{put_mid}

-- The bytes stand from an offset on, all other bytes are as they were, and what is handed back is the offset after them, which is within
-- the memory.
pub record Wrote (bytes before : List ℕ) (at : ℕ) (after : List ℕ) (next : ℕ) : Type 0 where
  pub written : after ≡ sets before at bytes
  pub ends : next ≡ at + length bytes
  pub within : next ≤ length before

-- It leaves one memory, and hands back one offset.
pub wrote_once : (bytes before : List ℕ) (at : ℕ) (after other : List ℕ) (next further : ℕ) → Wrote bytes before at after next → Wrote bytes before at other further
    → (after ≡ other) × (next ≡ further)
wrote_once bytes before at after other next further p q = (p.written ∙ sym q.written, p.ends ∙ sym q.ends)

-- It leaves the memory as long as it was.
pub wrote_long : {bytes before : List ℕ} {at : ℕ} {after : List ℕ} {next : ℕ} → Wrote bytes before at after next → length after ≡ length before
wrote_long {bytes} {before} {at} w = ap length w.written ∙ length-sets before at bytes

sets_append : (l : List ℕ) (at : ℕ) (x y : List ℕ) → sets l at (x ++ y) ≡ sets (sets l at x) (at + length x) y
sets_append l at [] y = rw add-zero
sets_append l at (a ∷ x) y = sets_append (set l at a) (suc at) x y ∙ rw (add-suc, suc-add)

-- one run, then another
pub wrote_then : {x y before between after : List ℕ} {at middle next : ℕ} → Wrote x before at between middle → Wrote y between middle after next
    → Wrote (x ++ y) before at after next
wrote_then {x} {y} {before} {between} {after} {at} {middle} {next} p q = record {
  written = q.written ∙ ap (λ l. sets l middle y) p.written ∙ ap (λ k. sets (sets before at x) k y) p.ends ∙ sym (sets_append before at x y);
  ends = rw (length-append x y) (omega (arith, p.ends, q.ends));
  within = omega (arith, q.within, wrote_long p);
}

-- one byte
pub wrote_byte : (b : ℕ) (before : List ℕ) (at : ℕ) → at < length before → Wrote (b ∷ []) before at (set before at b) (at + 1)
wrote_byte b before at h = record { written = refl; ends = refl; within = omega arith }

-- A list, from its place i on: what is left to write gives the whole.
pub record Writing (list before : List ℕ) (at : ℕ) (now : List ℕ) (i : ℕ) : Type 0 where
  pub rest : sets now (at + i) (drop i list) ≡ sets before at list
  pub reached : i ≤ length list
  pub long : length now ≡ length before

pub writing_start : (list before : List ℕ) (at : ℕ) → Writing list before at before 0
writing_start list before at = record { rest = rw add-zero; reached = omega arith; long = refl }

pub writing_turn : {list before : List ℕ} {at : ℕ} {now : List ℕ} {i : ℕ} → Writing list before at now i → i < length list
    → Writing list before at (set now (at + i) (get_or list i 0)) (i + 1)
writing_turn {list} {before} {at} {now} {i} s h = record {
  rest = rw (add-one, add-suc) (ap (sets now (at + i)) (sym (drop-cons list i 0 h)) ∙ s.rest);
  reached = omega arith;
  long = length-set now (at + i) (get_or list i 0) ∙ s.long;
}

pub writing_end : {list before : List ℕ} {at : ℕ} {now : List ℕ} {i : ℕ} → Writing list before at now i → length list ≤ i
    → at + length list ≤ length before → Wrote list before at now (at + i)
writing_end {list} {before} {at} {now} {i} s h room = record {
  written = ap (sets now (at + i)) (sym (drop_of_length-le list h)) ∙ s.rest;
  ends = omega (arith, s.reached);
  within = omega (arith, s.reached);
}

-- Into the part of the memory that starts at n. What the memory then holds is `put_mid`, which the kit gives.

sets_cons : (vs l : List ℕ) (x n : ℕ) → sets (x ∷ l) (suc n) vs ≡ x ∷ sets l n vs
sets_cons [] l x n = refl
sets_cons (v ∷ vs) l x n = sets_cons vs (set l n v) x (suc n)

tail_sets : (n : ℕ) (l vs : List ℕ) → n ≤ length l → take n l ++ sets (drop n l) 0 vs ≡ sets l n vs
tail_sets zero l vs h = refl
tail_sets (suc n) [] vs h = absurd (omega arith)
tail_sets (suc n) (x ∷ l) vs h = ap (λ (q : List ℕ). x ∷ q) (tail_sets n l vs (omega arith)) ∙ sym (sets_cons vs l x n)

-- what is written at the front of the part is written at n, and ends where the part's own end and n say
pub wrote_part : {bytes l ys : List ℕ} {n r : ℕ} → n ≤ length l → Wrote bytes (take (length l - n) (drop n l)) 0 ys r → Wrote bytes l n (put_mid n (length l - n) l ys) (n + r)
wrote_part {bytes} {l} {ys} {n} {r} h w =
    let d : length (drop n l) ≡ length l - n = length-drop n l in
    let t : take (length l - n) (drop n l) ≡ drop n l = take_all (length l - n) (drop n l) (omega arith) in
    let z : drop (length l - n) (drop n l) ≡ [] = drop_of_length-le (drop n l) {i = length l - n} (omega arith) in
    record {
      written = rw (w.written, t, z, append-nil) (tail_sets n l bytes h);
      ends = omega (arith, w.ends);
      within = omega (arith, w.within, ap length t);
    }

-- bytes at the front, and past them what was there
pub front_sets : (l vs : List ℕ) → length vs ≤ length l → sets l 0 vs ≡ vs ++ drop (length vs) l
front_sets l vs h = sets-eq vs l 0 (omega arith) ∙ rw zero-add
