-- The bytes of changes are read back, and what is read was written so.
use Rattle.std.proofs.Common.{◌==◌, ◌≡◌, ℕ, ◌<◌, ◌≤◌, suc, List, [], ◌∷◌, ◌++◌, Bool, true, false, if◌then◌else◌, refl, sym, ap, subst, ◌∙◌, length, nat_le, Some, None, option_map, arith, append_assoc, eqb-true}
use Rattle.std.specs.Option.{option_and_then}
use Rattle.std.proofs.lemmas.Bool.Decides.{nat_tests}
use Rattle.row_values.specs.Schema.{Schema, is_name, is_schema}
use Rattle.row_values.specs.Row.{counted, counted_at}
use Rattle.tables.specs.Change.{Change, create, put, remove, change_after, change_at, change_bytes, is_change, short_at}
use Rattle.row_values.specs.Bytes.{name_at, named, schema_at, schema_bytes}
use Rattle.row_values.proofs.RowLaws.{counted_back}
use Rattle.row_values.proofs.ValueLaws.{chained, counted_is, first_true, mapped, second_true, both_true}
use Rattle.row_values.proofs.ByteSteps.{name_good, schema_good, tested, taken}
use Rattle.drda_words.specs.Bytes.{AreBytes}
use Rattle.row_values.proofs.ByteLaws.{name_back, name_is, schema_back, schema_is}

pub short_good : (limit : ℕ) (bytes : List ℕ) (x : List ℕ × List ℕ) → short_at limit bytes ≡ Some x → nat_le (length x.0) limit ≡ true
short_good limit bytes x h =
    let m = chained (λ (y : List ℕ × List ℕ). if nat_le (length y.0) limit then Some y else None) (counted_at bytes) x h in
    taken (λ (y : List ℕ × List ℕ). nat_le (length y.0) limit) (nat_le (length m.0.0) limit) m.0 x m.2 refl

change_cases : (a b c : Bool) (name bytes : List ℕ) (x : Change × List ℕ) → is_name name ≡ true
    → (if a then option_map (λ (y : Schema × List ℕ). (create name y.0, y.1)) (schema_at bytes)
    else (if b then option_map (λ (y : List ℕ × List ℕ). (put name y.0, y.1)) (short_at 4000 bytes)
    else (if c then option_map (λ (y : List ℕ × List ℕ). (remove name y.0, y.1)) (short_at 8012 bytes) else None))) ≡ Some x → is_change x.0 ≡ true
change_cases true b c name bytes x good h =
    let m = mapped (λ (y : Schema × List ℕ). (create name y.0, y.1)) (schema_at bytes) x h in
    ap (λ (y : Change × List ℕ). is_change y.0) (sym m.2) ∙ both_true (is_name name) (is_schema m.0.0) good (schema_good bytes m.0 m.1)
change_cases false true c name bytes x good h =
    let m = mapped (λ (y : List ℕ × List ℕ). (put name y.0, y.1)) (short_at 4000 bytes) x h in
    ap (λ (y : Change × List ℕ). is_change y.0) (sym m.2) ∙ both_true (is_name name) (nat_le (length m.0.0) 4000) good (short_good 4000 bytes m.0 m.1)
change_cases false false true name bytes x good h =
    let m = mapped (λ (y : List ℕ × List ℕ). (remove name y.0, y.1)) (short_at 8012 bytes) x h in
    ap (λ (y : Change × List ℕ). is_change y.0) (sym m.2) ∙ both_true (is_name name) (nat_le (length m.0.0) 8012) good (short_good 8012 bytes m.0 m.1)
change_cases false false false name bytes x good h = absurd cc

-- a change that is read can be written
pub change_good : (code : ℕ) (name bytes : List ℕ) (x : Change × List ℕ) → is_name name ≡ true → change_after code name bytes ≡ Some x → is_change x.0 ≡ true
unfolding change_after
change_good code name bytes x good h = change_cases (code == 1) (code == 2) (code == 3) name bytes x good h

short_back : (limit : ℕ) (bytes rest : List ℕ) → limit < 65536 → nat_le (length bytes) limit ≡ true → short_at limit (counted bytes ++ rest) ≡ Some (bytes, rest)
short_back limit bytes rest small h =
    let le : length bytes ≤ limit = grind (arith, nat_tests) in
    ap (option_and_then (λ (x : List ℕ × List ℕ). if nat_le (length x.0) limit then Some x else None)) (counted_back bytes rest (omega arith)) ∙ tested (nat_le (length bytes) limit) (bytes, rest) h

-- the bytes behind a code and a name
change_front : (code : ℕ) (name more rest : List ℕ) → is_name name ≡ true → change_at ((code ∷ named name ++ more) ++ rest) ≡ change_after code name (more ++ rest)
change_front code name more rest h =
    ap (λ (l : List ℕ). option_and_then (λ (x : List ℕ × List ℕ). change_after code x.0 x.1) (name_at l)) (append_assoc (named name) more rest)
    ∙ ap (option_and_then (λ (x : List ℕ × List ℕ). change_after code x.0 x.1)) (name_back name (more ++ rest) h)

pub change_back : (d : Change) (rest : List ℕ) → is_change d ≡ true → change_at (change_bytes d ++ rest) ≡ Some (d, rest)
unfolding change_after
change_back (create name schema) rest good =
    change_front 1 name (schema_bytes schema) rest (first_true (is_name name) (is_schema schema) good)
    ∙ ap (option_map (λ (x : Schema × List ℕ). (create name x.0, x.1))) (schema_back schema rest (second_true (is_name name) (is_schema schema) good))
change_back (put name row) rest good =
    change_front 2 name (counted row) rest (first_true (is_name name) (nat_le (length row) 4000) good)
    ∙ ap (option_map (λ (x : List ℕ × List ℕ). (put name x.0, x.1))) (short_back 4000 row rest (omega arith) (second_true (is_name name) (nat_le (length row) 4000) good))
change_back (remove name key) rest good =
    change_front 3 name (counted key) rest (first_true (is_name name) (nat_le (length key) 8012) good)
    ∙ ap (option_map (λ (x : List ℕ × List ℕ). (remove name x.0, x.1))) (short_back 8012 key rest (omega arith) (second_true (is_name name) (nat_le (length key) 8012) good))

same_pair : (b : Bool) (y z : List ℕ × List ℕ) → (if b then Some y else None) ≡ Some z → y ≡ z
same_pair true y z h = cc
same_pair false y z h = absurd cc

short_is : (limit : ℕ) (bytes : List ℕ) (x : List ℕ × List ℕ) → AreBytes bytes → short_at limit bytes ≡ Some x → bytes ≡ counted x.0 ++ x.1
short_is limit bytes x all h =
    let m = chained (λ (y : List ℕ × List ℕ). if nat_le (length y.0) limit then Some y else None) (counted_at bytes) x h in
    let r = counted_is bytes m.0 all m.1 in
    subst (λ (y : List ℕ × List ℕ). bytes ≡ counted y.0 ++ y.1) (same_pair (nat_le (length m.0.0) limit) m.0 x m.2) r.0

change_rest : (a b c : Bool) (code : ℕ) (name bytes : List ℕ) (x : Change × List ℕ) → AreBytes bytes → (code == 1) ≡ a → (code == 2) ≡ b → (code == 3) ≡ c
    → (if a then option_map (λ (y : Schema × List ℕ). (create name y.0, y.1)) (schema_at bytes)
    else (if b then option_map (λ (y : List ℕ × List ℕ). (put name y.0, y.1)) (short_at 4000 bytes)
    else (if c then option_map (λ (y : List ℕ × List ℕ). (remove name y.0, y.1)) (short_at 8012 bytes) else None))) ≡ Some x
    → code ∷ named name ++ bytes ≡ change_bytes x.0 ++ x.1
change_rest true b c code name bytes x all p q r h =
    let m = mapped (λ (y : Schema × List ℕ). (create name y.0, y.1)) (schema_at bytes) x h in
    let s = schema_is bytes m.0 all m.1 in
    subst (λ (y : Change × List ℕ). code ∷ named name ++ bytes ≡ change_bytes y.0 ++ y.1) m.2
    (ap (λ (n : ℕ). n ∷ named name ++ bytes) (eqb-true code 1 p) ∙ ap (λ (l : List ℕ). 1 ∷ named name ++ l) s.1 ∙ ap (λ (l : List ℕ). 1 ∷ l) (sym (append_assoc (named name) (schema_bytes m.0.0) m.0.1)))
change_rest false true c code name bytes x all p q r h =
    let m = mapped (λ (y : List ℕ × List ℕ). (put name y.0, y.1)) (short_at 4000 bytes) x h in
    let s = short_is 4000 bytes m.0 all m.1 in
    subst (λ (y : Change × List ℕ). code ∷ named name ++ bytes ≡ change_bytes y.0 ++ y.1) m.2
    (ap (λ (n : ℕ). n ∷ named name ++ bytes) (eqb-true code 2 q) ∙ ap (λ (l : List ℕ). 2 ∷ named name ++ l) s ∙ ap (λ (l : List ℕ). 2 ∷ l) (sym (append_assoc (named name) (counted m.0.0) m.0.1)))
change_rest false false true code name bytes x all p q r h =
    let m = mapped (λ (y : List ℕ × List ℕ). (remove name y.0, y.1)) (short_at 8012 bytes) x h in
    let s = short_is 8012 bytes m.0 all m.1 in
    subst (λ (y : Change × List ℕ). code ∷ named name ++ bytes ≡ change_bytes y.0 ++ y.1) m.2
    (ap (λ (n : ℕ). n ∷ named name ++ bytes) (eqb-true code 3 r) ∙ ap (λ (l : List ℕ). 3 ∷ named name ++ l) s ∙ ap (λ (l : List ℕ). 3 ∷ l) (sym (append_assoc (named name) (counted m.0.0) m.0.1)))
change_rest false false false code name bytes x all p q r h = absurd cc

pub change_is : (bytes : List ℕ) (x : Change × List ℕ) → AreBytes bytes → change_at bytes ≡ Some x → (is_change x.0 ≡ true) × (bytes ≡ change_bytes x.0 ++ x.1)
unfolding change_after
change_is [] x all h = absurd cc
change_is (code ∷ bytes) x all h =
    let m = chained (λ (y : List ℕ × List ℕ). change_after code y.0 y.1) (name_at bytes) x h in
    let n = name_is bytes m.0 (λ i. all (suc i)) m.1 in (
      change_good code m.0.0 m.0.1 x (name_good bytes m.0 m.1) m.2,
      ap (λ (l : List ℕ). code ∷ l) n.0 ∙ change_rest (code == 1) (code == 2) (code == 3) code m.0.0 m.0.1 x n.1 refl refl refl m.2,
    )
