-- What is written container by container.
use Rattle.std.proofs.Common.{◌≡◌, ◌≢◌, ℕ, ◌+◌, ◌^◌, ◌<◌, ◌≤◌, Bool, true, false, cond, leb, ltb, List, [], ◌∷◌, ◌++◌, length, take, drop, refl, sym, ap, subst, ◌∙◌, append_assoc, arith, lit≤}
use Rattle.std.proofs.lemmas.Bool.{ltb-true, leb-true, le-leb}
use Rattle.std.proofs.lemmas.List.{append-nil, take-append-le, drop-append-le, length-append}
use Rattle.std.specs.Prelude.{Option, Some, Result, Ok, Err, OnOk, OnErr, reverse}
use Rattle.std.specs.Option.{option_to_list}
use Rattle.std.proofs.lemmas.List.{reverse-append}
use Rattle.ddm_objects.specs.declared.writing.Opened.{Opened}
use Rattle.ddm_objects.specs.Objects.{Obj, Plain, Extended4, Extended8, heading, HasRoom, IsObject}
use Rattle.ddm_objects.specs.Writing.{form_for, spelled, Writing, opened, append_to, appended, closed, Trees, NoTrees, Scalar, Container, text_of, AreTrees, CanBeWritten, written}
use Rattle.ddm_objects.specs.Levels.{writing_of, IsNested}

-- ---- one object

form_has_room : (size : ℕ) (b c : Bool) → leb size 32763 ≡ b → ltb size 0x1_0000_0000 ≡ c → size < 2 ^ 64 → HasRoom (cond b Plain (cond c Extended4 Extended8)) size
form_has_room size true c e f small = let le = leb-true _ _ e in omega arith
form_has_room size false true e f small = ltb-true _ _ f
form_has_room size false false e f small = small

pub spelled_object : (code : ℕ) (value : List ℕ) → code < 2 ^ 16 → length value < 2 ^ 64 → IsObject (spelled code value) (record { code = code; value = value })
unfolding spelled
spelled_object code value small room =
    record { form = form_for (length value); code_fits = small; size_fits = form_has_room (length value) _ _ refl refl room; spelled = refl }

heading_size : (code size : ℕ) (b c : Bool) → length (heading (cond b Plain (cond c Extended4 Extended8)) code size) ≤ 12
heading_size code size true c = lit≤ tt
heading_size code size false true = lit≤ tt
heading_size code size false false = lit≤ tt

plain_size : (code size : ℕ) (b c : Bool) → b ≡ true → length (heading (cond b Plain (cond c Extended4 Extended8)) code size) ≡ 4
plain_size code size true c e = refl
plain_size code size false c e = absurd cc

pub spelled_at_most : (code : ℕ) (value : List ℕ) → length (spelled code value) ≤ length value + 12
unfolding spelled
spelled_at_most code value =
    omega (arith, length-append (heading (form_for (length value)) code (length value)) value, heading_size code (length value) (leb (length value) 32763) (ltb (length value) 0x1_0000_0000))

pub spelled_plain : (code : ℕ) (value : List ℕ) → length value ≤ 32763 → length (spelled code value) ≡ length value + 4
unfolding spelled
spelled_plain code value fits =
    omega (arith, length-append (heading (form_for (length value)) code (length value)) value, plain_size code (length value) (leb (length value) 32763) (ltb (length value) 0x1_0000_0000) (le-leb _ _ fits))

-- ---- trees

append_none : (text : List ℕ) (cs : List Obj) → append_to text cs [] ≡ record { text = text; containers = cs }
append_none text [] = ap (λ (y : List ℕ). record { text = y; containers = [] }) (append-nil text)
append_none text (o ∷ os) = ap (λ (y : List ℕ). record { text = text; containers = record { code = o.code; value = y } ∷ os }) (append-nil o.value)

append_twice : (text : List ℕ) (cs : List Obj) (a b : List ℕ) → appended b (append_to text cs a) ≡ append_to text cs (a ++ b)
append_twice text [] a b = ap (λ (y : List ℕ). record { text = y; containers = [] }) (append_assoc text a b)
append_twice text (o ∷ os) a b = ap (λ (y : List ℕ). record { text = text; containers = record { code = o.code; value = y } ∷ os }) (append_assoc o.value a b)

pub written_appends : (trees : Trees) (w : Writing) → written trees w ≡ appended (text_of trees) w
written_appends NoTrees w = sym (append_none w.text w.containers)
written_appends (Scalar code value beside) w =
    written_appends beside (appended (spelled code value) w) ∙ append_twice w.text w.containers (spelled code value) (text_of beside)
written_appends (Container code inside beside) w =
    written_appends beside (closed (written inside (opened code w)))
    ∙ ap (λ (v : Writing). appended (text_of beside) (closed v)) (written_appends inside (opened code w))
    ∙ append_twice w.text w.containers (spelled code (text_of inside)) (text_of beside)

pub text_reads_back : (trees : Trees) → CanBeWritten trees → AreTrees (text_of trees) trees
text_reads_back NoTrees can = refl
text_reads_back (Scalar code value beside) can =
    (spelled code value, text_of beside, spelled_object code value can.0 can.1, refl, text_reads_back beside can.2)
text_reads_back (Container code inside beside) can =
    (spelled code (text_of inside), text_of beside, text_of inside, spelled_object code (text_of inside) can.0 can.1, text_reads_back inside can.2, refl, text_reads_back beside can.3)

-- ---- the builder's buffer

pub writing_more : (buffer bytes : List ℕ) (cs : List Opened) → IsNested buffer cs → writing_of (buffer ++ bytes) cs ≡ appended bytes (writing_of buffer cs)
writing_more buffer bytes [] nested = refl
writing_more buffer bytes (c ∷ cs) nested =
    let inside : c.at + 4 ≤ length buffer = nested.0 in
    let before : c.at ≤ length buffer = omega arith in
    let around : take c.at (buffer ++ bytes) ≡ take c.at buffer = take-append-le c.at buffer bytes before in
    let value : drop (c.at + 4) (buffer ++ bytes) ≡ drop (c.at + 4) buffer ++ bytes = drop-append-le (c.at + 4) buffer bytes inside in
    ap (λ (y : List ℕ). record { text = (writing_of y cs).text; containers = record { code = c.code; value = drop (c.at + 4) (buffer ++ bytes) } ∷ (writing_of y cs).containers }) around
    ∙ ap (λ (v : List ℕ). record { text = (writing_of (take c.at buffer) cs).text; containers = record { code = c.code; value = v } ∷ (writing_of (take c.at buffer) cs).containers }) value

pub nested_more : (buffer bytes : List ℕ) (cs : List Opened) → IsNested buffer cs → IsNested (buffer ++ bytes) cs
nested_more buffer bytes [] nested = tt
nested_more buffer bytes (c ∷ cs) nested =
    let inside : c.at + 4 ≤ length buffer = nested.0 in
    let before : c.at ≤ length buffer = omega arith in
    (omega (arith, length-append buffer bytes), subst (λ y. IsNested y cs) (sym (take-append-le c.at buffer bytes before)) nested.1)

-- the outcome of appending, or of wanting memory
pub nested_then : {X E : Type 0} (r : Result X E) (old new bytes : List ℕ) (cs : List Opened) → OnOk r (new ≡ old ++ bytes) → OnErr r (new ≡ old) → IsNested old cs → IsNested new cs
nested_then (Ok x) old new bytes cs ok err nested = subst (λ y. IsNested y cs) (sym ok) (nested_more old bytes cs nested)
nested_then (Err e) old new bytes cs ok err nested = subst (λ y. IsNested y cs) (sym err) nested

pub writing_then : {X E : Type 0} (r : Result X E) (old new bytes : List ℕ) (cs : List Opened) (w : Writing) → OnOk r (new ≡ old ++ bytes) → IsNested old cs → writing_of old cs ≡ w
    → OnOk r (writing_of new cs ≡ appended bytes w)
writing_then (Ok x) old new bytes cs w ok nested is = ap (λ y. writing_of y cs) ok ∙ writing_more old bytes cs nested ∙ ap (appended bytes) is
writing_then (Err e) old new bytes cs w ok nested is = tt

-- the innermost container, taken off the end
pub last_first : (items left : List Opened) (popped : Option Opened) (c : Opened) → items ≡ left ++ option_to_list popped → popped ≡ Some c → reverse items ≡ c ∷ reverse left
last_first items left popped c e is =
    ap reverse (e ∙ ap (λ (p : Option Opened). left ++ option_to_list p) is) ∙ reverse-append left (c ∷ [])

pub nested_closed : (buffer new : List ℕ) (cs : List Opened) (c : Opened) (around : List Opened) → cs ≡ c ∷ around → IsNested buffer cs
    → new ≡ take c.at buffer ++ spelled c.code (drop (c.at + 4) buffer) → IsNested new around
nested_closed buffer new cs c around is nested e =
    let both = subst (IsNested buffer) is nested in
    subst (λ y. IsNested y around) (sym e) (nested_more (take c.at buffer) (spelled c.code (drop (c.at + 4) buffer)) around both.1)

pub writing_closed : (buffer new : List ℕ) (cs : List Opened) (c : Opened) (around : List Opened) (w : Writing) → cs ≡ c ∷ around → IsNested buffer cs
    → new ≡ take c.at buffer ++ spelled c.code (drop (c.at + 4) buffer) → writing_of buffer cs ≡ w → writing_of new around ≡ closed w
writing_closed buffer new cs c around w is nested e was =
    let both = subst (IsNested buffer) is nested in
    ap (λ y. writing_of y around) e
    ∙ writing_more (take c.at buffer) (spelled c.code (drop (c.at + 4) buffer)) around both.1
    ∙ ap (λ (xs : List Opened). closed (writing_of buffer xs)) (sym is)
    ∙ ap closed was

pub text_at_end : (buffer : List ℕ) (cs : List Opened) (w : Writing) → writing_of buffer cs ≡ w → w.containers ≡ [] → buffer ≡ w.text
text_at_end buffer [] w e none = ap (λ (v : Writing). v.text) e
text_at_end buffer (c ∷ cs) w e none = absurd (let bad = ap (λ (v : Writing). v.containers) e ∙ none in cc)

pub some_open : (buffer : List ℕ) (items : List Opened) (w : Writing) → writing_of buffer (reverse items) ≡ w → w.containers ≢ [] → 0 < length items
some_open buffer [] w e open_ones = absurd (open_ones (sym (ap (λ (v : Writing). v.containers) e)))
some_open buffer (c ∷ cs) w e open_ones = omega arith
