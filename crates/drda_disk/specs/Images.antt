-- What a write leaves, and that what is read is one of the images that a crash may leave.
use Rattle.std.specs.Prelude.{◌≡◌, ℕ, ◌+◌, ◌≤◌, List, [], ◌∷◌, ◌++◌, length, take, drop, refl}
use Rattle.std.proofs.Common.{inl, inr, sym, ◌∙◌, ap, subst, cond, arith, length-append, length-take, length-drop}
use Rattle.std.proofs.lemmas.Bool.{le-leb}
use Rattle.std.proofs.lemmas.Bool.Decides.{leb_tells}
use Rattle.std.proofs.lemmas.List.{take_at, drop_at, append_assoc}
use Rattle.drda_disk.specs.Disk.{Torn, overlaid}
use Rattle.drda_disk.specs.Replay.{Step, wrote, synced, written_over, read_after, Reaches, LeftSince}

pub Torn-refl : (at n : ℕ) (file : List ℕ) → Torn at n file file
Torn-refl at n file = record { size = refl; before = refl; after = refl }

pub length-front : (file : List ℕ) (at n : ℕ) → at + n ≤ length file → length (take at file) ≡ at
length-front file at n within = omega (arith, length-take at file)

-- a write changes nothing outside of its range
pub Torn-overlaid : (file : List ℕ) (at : ℕ) (bytes : List ℕ) → at + length bytes ≤ length file → Torn at (length bytes) file (overlaid file at bytes)
Torn-overlaid file at bytes within =
    let front : length (take at file) ≡ at = length-front file at (length bytes) within in
    let both : length (take at file ++ bytes) ≡ at + length bytes = omega (arith, front, length-append (take at file) bytes) in
    record {
      size = omega (arith, front, length-append (take at file) (bytes ++ drop (at + length bytes) file), length-append bytes (drop (at + length bytes) file), length-drop (at + length bytes) file);
      before = take_at (take at file) (bytes ++ drop (at + length bytes) file) at front;
      after = ap (λ (l : List ℕ). drop (at + length bytes) l) (sym (append_assoc (take at file) bytes (drop (at + length bytes) file)))
          ∙ drop_at (take at file ++ bytes) (drop (at + length bytes) file) (at + length bytes) both;
    }

pub over_is : (file : List ℕ) (at : ℕ) (bytes : List ℕ) → at + length bytes ≤ length file → written_over file at bytes ≡ overlaid file at bytes
over_is file at bytes within = ap (λ b. cond b (overlaid file at bytes) file) (le-leb _ _ within)

pub Torn-over : (file : List ℕ) (at : ℕ) (bytes : List ℕ) → Torn at (length bytes) file (written_over file at bytes)
Torn-over file at bytes = elim (leb_tells (at + length bytes) (length file)) [
  | inl within ↦ subst (λ (l : List ℕ). Torn at (length bytes) file l) (sym (over_is file at bytes within.1)) (Torn-overlaid file at bytes within.1)
  | inr past ↦ subst (λ (l : List ℕ). Torn at (length bytes) file l) (sym (ap (λ b. cond b (overlaid file at bytes) file) past.0)) (Torn-refl at (length bytes) file)
]

reaches_read : (first : List ℕ) (steps : List Step) → Reaches first steps (read_after first steps)
reaches_read first [] = refl
reaches_read first (wrote at bytes ∷ steps) = (read_after first steps, reaches_read first steps, Torn-over (read_after first steps) at bytes)
reaches_read first (synced ∷ steps) = refl

pub read_is_image : (first seen : List ℕ) (steps : List Step) → seen ≡ read_after first steps → LeftSince first steps (length steps) seen
read_is_image first seen steps same = (0, omega arith, subst (λ (l : List ℕ). Reaches first steps l) (sym same) (reaches_read first steps))
