-- The bytes of a laid group, and the records in them.
use Rattle.std.proofs.Common.{◌≡◌, ℕ, zero, suc, ◌-◌, ◌^◌, ◌<◌, ◌≤◌, List, [], ◌∷◌, ◌++◌, length, get_or, take, drop, set, refl, sym, ◌∙◌, ap, subst, arith, append_assoc, length-append}
use Rattle.std.proofs.lemmas.List.{append-nil, take_at, drop_at}
use Rattle.std.proofs.lemmas.Nat.{from_be_bytes-to_be_bytes_4}
use Rattle.std.proofs.Math.Seq.{set-append_seam}
use Rattle.std.specs.Int.{w32, from_be_bytes}
use Rattle.drda_words.specs.Place.{part}
use Rattle.unit_journal.specs.Kind.{code_of, kind_for}
use Rattle.unit_journal.specs.Record.{Entry, behind, laid, AreShort}
use Rattle.unit_journal.specs.LaidGroup.{first_in, entries_from, entries_behind, IsLaid}
use Rattle.unit_journal.specs.declared.kind.Kind.{Kind}
use Rattle.unit_journal.specs.declared.kind.Kind.TheVariants.{Commit, Prepare, Decide, Heuristic, Forget}
use Rattle.unit_journal.proofs.Spelling.{laid-push, length-laid-cons, short-push}
use Rattle.unit_journal.proofs.Appending.{length-bytes}

kind-code : (kind : Kind) → kind_for (code_of kind) ≡ kind
kind-code Commit = refl
kind-code Prepare = refl
kind-code Decide = refl
kind-code Heuristic = refl
kind-code Forget = refl

module _ (e : Entry) (behind_it : List ℕ) (short : length e.body < 2 ^ 32) where
  abbrev bytes : List ℕ
  bytes = 165 ∷ (behind e ++ behind_it)

  size : from_be_bytes w32 (part bytes 2 4) ≡ length e.body
  size = from_be_bytes-to_be_bytes_4 (length e.body) short

  body : (first_in bytes).body ≡ e.body
  body = ap (λ n. take n (e.body ++ behind_it)) size ∙ take_at e.body behind_it (length e.body) refl

  first_is : first_in bytes ≡ e
  first_is = let kind : (first_in bytes).kind ≡ e.kind = kind-code e.kind in let same : (first_in bytes).body ≡ e.body = body in λ i. record { kind = kind i; body = same i }

  rest_is : drop (length (first_in bytes).body) (drop 6 bytes) ≡ behind_it
  rest_is = ap (λ (l : List ℕ). drop (length l) (e.body ++ behind_it)) body ∙ drop_at e.body behind_it (length e.body) refl

-- the records in such bytes are those that spell them
entries_are : (gs : List Entry) (most : ℕ) → length gs ≤ most → AreShort gs → entries_from most (laid gs ++ 0 ∷ []) ≡ gs
entries_are [] zero low short = refl
entries_are [] (suc n) low short = refl
entries_are (e ∷ gs) zero low short = absurd (omega (arith, low))
entries_are (e ∷ gs) (suc n) low short =
    let t : List ℕ = laid gs ++ 0 ∷ [] in
    ap (λ (l : List ℕ). entries_from (suc n) (165 ∷ l)) (append_assoc (behind e) (laid gs) (0 ∷ []))
    ∙ ap (λ (l : List ℕ). first_in (165 ∷ (behind e ++ t)) ∷ entries_from n l) (rest_is e t short.0)
    ∙ ap (λ (f : Entry). f ∷ entries_from n t) (first_is e t short.0)
    ∙ ap (λ (l : List Entry). e ∷ l) (entries_are gs n (omega (arith, low)) short.1)

count_fits : (gs : List Entry) → length gs ≤ length (laid gs)
count_fits [] = omega arith
count_fits (e ∷ gs) = omega (arith, length-laid-cons e gs, count_fits gs)

module _ (gs : List Entry) (bytes : List ℕ) (is : 165 ∷ bytes ≡ laid gs ++ 0 ∷ []) (short : AreShort gs) where
  pub entries_behind_are : entries_behind bytes ≡ gs
  entries_behind_are = ap (λ (l : List ℕ). entries_from (length bytes) l) is ∙ entries_are gs (length bytes) (omega (arith, length-bytes gs bytes is, count_fits gs)) short

  pub is_laid : IsLaid bytes
  is_laid = record {
    spelled = is ∙ ap (λ (l : List Entry). laid l ++ 0 ∷ []) (sym entries_behind_are);
    short = subst AreShort (sym entries_behind_are) short;
  }

-- one record
pub laid_one : (e : Entry) (one : List ℕ) → one ≡ behind e ++ 0 ∷ [] → 165 ∷ one ≡ laid (e ∷ []) ++ 0 ∷ []
laid_one e one is = ap (λ (l : List ℕ). 165 ∷ l) (is ∙ ap (λ (l : List ℕ). l ++ 0 ∷ []) (sym (append-nil (behind e))))

-- there is a gate that the bytes end with
pub is_some : (bytes : List ℕ) → IsLaid bytes → 0 < length bytes
is_some [] s = absurd (none (entries_behind []) s.spelled)
  where
    none : (gs : List Entry) → 165 ∷ [] ≡ laid gs ++ 0 ∷ [] → ⊥
    none [] is = let gate : 165 ≡ 0 = ap (λ (l : List ℕ). get_or l 0 0) is in omega (arith, gate)
    none (g ∷ gs) is = omega (arith, ap length is, length-append (laid (g ∷ gs)) (0 ∷ []), length-laid-cons g gs)
is_some (x ∷ bytes) s = omega arith

-- a record more: the gate that the bytes ended with is open
module _ (e : Entry) (old more new : List ℕ) (s : IsLaid old) (short : length e.body < 2 ^ 32) (is : more ≡ behind e ++ 0 ∷ []) (are : new ≡ set (old ++ more) (length old - 1) 165) where
  abbrev gs : List Entry
  gs = entries_behind old

  place : suc (length old - 1) ≡ length (laid gs)
  place = omega (arith, is_some old s, length-bytes gs old s.spelled)

  spelled : 165 ∷ new ≡ laid (gs ++ e ∷ []) ++ 0 ∷ []
  spelled =
      ap (λ (l : List ℕ). 165 ∷ l) are
      ∙ ap (λ (l : List ℕ). set (l ++ more) (suc (length old - 1)) 165) s.spelled
      ∙ ap (λ (l : List ℕ). set l (suc (length old - 1)) 165) (append_assoc (laid gs) (0 ∷ []) more)
      ∙ ap (λ n. set (laid gs ++ 0 ∷ more) n 165) place
      ∙ set-append_seam (laid gs) 0 more 165
      ∙ ap (λ (l : List ℕ). laid gs ++ 165 ∷ l) is
      ∙ sym (append_assoc (laid gs) (165 ∷ behind e) (0 ∷ []))
      ∙ ap (λ (l : List ℕ). l ++ 0 ∷ []) (sym (laid-push gs e))

  pub pushed_are : entries_behind new ≡ entries_behind old ++ e ∷ []
  pushed_are = entries_behind_are (gs ++ e ∷ []) new spelled (short-push gs e s.short short)

  pub pushed_is_laid : IsLaid new
  pushed_is_laid = is_laid (gs ++ e ∷ []) new spelled (short-push gs e s.short short)
