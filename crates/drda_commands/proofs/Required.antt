-- What is accepted has brought what it requires.
use Rattle.std.proofs.Common.{◌≡◌, ℕ, Bool, true, false, not, ◌&&◌, ◌||◌, List, [], ◌∷◌, length, Result, Ok, Err, Option, Some, None, ◌≤◌, refl, sym, ap, subst, ◌∙◌, if◌then◌else◌, arith}
use Rattle.std.specs.Prelude.{is_some, nat_le, IsSome, IfSome}
use Rattle.std.specs.List.{list_any}
use Rattle.std.specs.Option.{option_and_then}
use Rattle.ddm_objects.specs.declared.code_point.TheConstants.{PKGNAMCSN, QRYBLKSZ, SYNCTYPE, SQLSTT}
use Rattle.drda_commands.specs.declared.refusal.Refusal.{Refusal}
use Rattle.drda_commands.specs.declared.refusal.Refusal.TheVariants.{ValueNotSupported}
use Rattle.drda_commands.specs.declared.table.Command.{Command}
use Rattle.drda_commands.specs.declared.table.Command.TheVariants.{Excsat, Accsec, Secchk, Accrdb, Excsqlimm, Prpsqlstt, Dscsqlstt, Excsqlstt, Opnqry, Cntqry, Clsqry, Rdbcmm, Rdbrllbck, Syncctl}
use Rattle.drda_commands.specs.declared.table.Form.{Form}
use Rattle.drda_commands.specs.declared.table.Item.{Item}
use Rattle.drda_commands.specs.declared.table.ItemKind.TheVariants.{Parameter, DataObject}
use Rattle.drda_commands.specs.Given.{Given, Occurs, never, once, twice, value_of, found_at}
use Rattle.drda_commands.specs.Judge.{has_twice, has_no_text, is_absent, is_block_size, is_sync_type, is_supported, has_bad_value, item_twice, item_missing, item_bad, none_bad}
use Rattle.drda_commands.specs.Needs.{HasSection, Needs}
use Rattle.drda_commands.specs.Tables.{items_for}
use Rattle.drda_commands.specs.Texts.{text_in}
use Rattle.drda_commands.specs.Values.{statement_in, block_size_in, sync_type_in, number1, number4}

-- ---- tests

both : (a b : Bool) → (a || b) ≡ false → (a ≡ false) × (b ≡ false)
both true b e = absurd (cc e)
both false b e = (refl, e)

other : (a b : Bool) → a ≡ true → (a && b) ≡ false → b ≡ false
other true b is e = e
other false b is e = absurd (cc is)

not_false : (b : Bool) → not b ≡ false → b ≡ true
not_false true e = refl
not_false false e = absurd (cc e)

unless : (b : Bool) (refusal : Refusal) (next : Result (Unit {0}) Refusal) → (if b then Err refusal else next) ≡ Ok tt → (b ≡ false) × (next ≡ Ok tt)
unless true refusal next e = absurd (cc e)
unless false refusal next e = (refl, e)

-- ---- items

-- the item came once, in its form
record Came (unicode : Bool) (given : Given) (item : Item) : Type 0 where
  value : List ℕ
  is_once : found_at item.kind item.code given ≡ once value
  is_whole : has_no_text item.form value ≡ false
  fits : is_supported unicode item.form value ≡ true

by_occurs : (unicode : Bool) (form : Form) (o : Occurs) → is_absent form o ≡ false → has_twice form o ≡ false → has_bad_value unicode form o ≡ false
    → (value : List ℕ) × (o ≡ once value) × (has_no_text form value ≡ false) × (is_supported unicode form value ≡ true)
by_occurs unicode form never a t b = absurd (cc a)
by_occurs unicode form (once value) a t b = (value, refl, a, not_false (is_supported unicode form value) b)
by_occurs unicode form twice a t b = absurd (cc t)

came : (unicode : Bool) (given : Given) (item : Item) → item.is_required ≡ true → item_missing given item ≡ false → item_twice given item ≡ false → item_bad unicode given item ≡ false
    → Came unicode given item
came unicode given item required missing double bad =
    let absent : is_absent item.form (found_at item.kind item.code given) ≡ false = other item.is_required (is_absent item.form (found_at item.kind item.code given)) required missing in
    let it = by_occurs unicode item.form (found_at item.kind item.code given) absent double bad in
    record { value = it.0; is_once = it.1; is_whole = it.2; fits = it.3 }

abbrev AllCame : Bool → Given → List Item → Type 0
AllCame unicode given [] = Unit {0}
AllCame unicode given (item ∷ items) = (item.is_required ≡ true → Came unicode given item) × AllCame unicode given items

all_came : (unicode : Bool) (given : Given) (items : List Item) → list_any (item_twice given) items ≡ false → list_any (item_missing given) items ≡ false → none_bad unicode items given ≡ Ok tt
    → AllCame unicode given items
all_came unicode given [] double missing bad = tt
all_came unicode given (item ∷ items) double missing bad =
    let (d, ds) = both (item_twice given item) (list_any (item_twice given) items) double in
    let (m, ms) = both (item_missing given item) (list_any (item_missing given) items) missing in
    let (b, bs) = unless (item_bad unicode given item) (ValueNotSupported item.code) (none_bad unicode items given) bad in
    (λ required. came unicode given item required m d b, all_came unicode given items ds ms bs)

-- ---- values

abbrev Fits : Option (List ℕ) → Type 0
Fits name = IsSome name × IfSome name (λ value. (64 ≤ length value) × (length value ≤ 791))

lengths : (n : ℕ) → (nat_le 64 n && nat_le n 791) ≡ true → (64 ≤ n) × (n ≤ 791)
lengths n e = (grind (arith, e), grind (arith, e))

section_came : (given : Given) (value : List ℕ) → found_at Parameter PKGNAMCSN given ≡ once value → (nat_le 64 (length value) && nat_le (length value) 791) ≡ true → HasSection given
section_came given value is fits = subst (λ (o : Occurs). Fits (value_of o)) (sym is) (refl, lengths (length value) fits)

statement_came : (given : Given) (value : List ℕ) → found_at DataObject SQLSTT given ≡ once value → not (is_some (text_in value)) ≡ false → IsSome (statement_in given)
statement_came given value is there = ap (λ (o : Occurs). is_some (option_and_then text_in (value_of o))) is ∙ not_false (is_some (text_in value)) there

sized : (size : Option ℕ) → is_block_size size ≡ true → is_some size ≡ true
sized None e = absurd (cc e)
sized (Some n) e = refl

size_came : (given : Given) (value : List ℕ) → found_at Parameter QRYBLKSZ given ≡ once value → is_block_size (number4 value) ≡ true → IsSome (block_size_in given)
size_came given value is fits = ap (λ (o : Occurs). is_some (option_and_then number4 (value_of o))) is ∙ sized (number4 value) fits

single : (value : List ℕ) → is_sync_type value ≡ true → is_some (number1 value) ≡ true
single [] e = absurd (cc e)
single (a ∷ []) e = refl
single (a ∷ b ∷ more) e = absurd (cc e)

call_came : (given : Given) (value : List ℕ) → found_at Parameter SYNCTYPE given ≡ once value → is_sync_type value ≡ true → IsSome (sync_type_in given)
call_came given value is fits = ap (λ (o : Occurs). is_some (option_and_then number1 (value_of o))) is ∙ single value fits

needs_met : (unicode : Bool) (command : Command) (given : Given) → AllCame unicode given (items_for command) → Needs command given
needs_met unicode Excsat given all = tt
needs_met unicode Accsec given all = tt
needs_met unicode Secchk given all = tt
needs_met unicode Accrdb given all = tt
needs_met unicode Excsqlimm given all = let it = all.0 refl in statement_came given it.value it.is_once it.is_whole
needs_met unicode Prpsqlstt given all =
    let section = all.0 refl in
    let text = all.1.1.1.0 refl in
    (section_came given section.value section.is_once section.fits, statement_came given text.value text.is_once text.is_whole)
needs_met unicode Dscsqlstt given all = let it = all.0 refl in section_came given it.value it.is_once it.fits
needs_met unicode Excsqlstt given all = let it = all.0 refl in section_came given it.value it.is_once it.fits
needs_met unicode Opnqry given all =
    let section = all.0 refl in
    let size = all.1.0 refl in
    (section_came given section.value section.is_once section.fits, size_came given size.value size.is_once size.fits)
needs_met unicode Cntqry given all = let it = all.0 refl in section_came given it.value it.is_once it.fits
needs_met unicode Clsqry given all = let it = all.0 refl in section_came given it.value it.is_once it.fits
needs_met unicode Rdbcmm given all = tt
needs_met unicode Rdbrllbck given all = tt
needs_met unicode Syncctl given all = let it = all.0 refl in call_came given it.value it.is_once it.fits

-- what passed the three checks of items has brought what it requires
pub passed : (unicode : Bool) (command : Command) (given : Given) → list_any (item_twice given) (items_for command) ≡ false → list_any (item_missing given) (items_for command) ≡ false
    → none_bad unicode (items_for command) given ≡ Ok tt → Needs command given
passed unicode command given single present fit = needs_met unicode command given (all_came unicode given (items_for command) single present fit)
