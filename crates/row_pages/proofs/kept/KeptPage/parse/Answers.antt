use Rattle.std.proofs.Common.{◌≡◌, ◌==◌, ℕ, List, true, false, drop, ap, sym, subst, ◌∙◌}
use Rattle.std.specs.List.{list_all}
use Rattle.drda_words.specs.Bytes.{AreBytes}
use Rattle.row_pages.specs.Page.{IsPage, Page}
use Rattle.row_pages.specs.Parsing.{HasHead}
use Rattle.row_pages.specs.Walk.{ArePlaced}
use Rattle.row_pages.specs.Reading.{has_rows}
use Rattle.row_pages.proofs.PageBytes.{no_page_at}
use Rattle.row_pages.proofs.Placed.{has_none, is_none, is_page, keeps_page}
use Rattle.row_pages.proofs.kept.KeptPage.parse.Goals as goal

pub returns-in_default : goal.returns-in_default
returns-in_default c = subst (λ (b : List ℕ). (page : Page) → IsPage page b → ⊥) c.deref.ensures.value (no_page_at c.deref.result.now c.in_default.ensures.head)

pub invariant_of-result : goal.invariant_of-result
invariant_of-result c =
    let bytes = c.args.bytes.items in
    let head = subst (λ (b : List ℕ). HasHead b c.in-Some.kind c.in-Some.count) c.deref.ensures.value c.in-Some.ensures.head in
    let placed = subst (λ (b : List ℕ). ArePlaced c.in-Some.count b c.place_rows.new.starts.items c.in-Some-place_rows.end) c.deref-2.ensures.value c.in-Some-place_rows.ensures in
    let zeros : list_all (λ x. x == 0) (drop c.in-Some-place_rows.end bytes) ≡ true = ap (λ (b : List ℕ). list_all (λ x. x == 0) (drop c.in-Some-place_rows.end b)) (sym c.deref-in-Some-place_rows.ensures.value) ∙ ap (list_all (λ x. x == 0)) (sym c.from_place.ensures) ∙ sym c.if-is_zero.ensures in
    let all : AreBytes bytes = subst AreBytes c.deref.ensures.value c.in-Some.ensures.bytes in
    keeps_page bytes c.place_rows.new.starts.items c.in-Some.kind c.in-Some.count c.in-Some-place_rows.end head all placed zeros

pub returns-then-is_zero : goal.returns-then-is_zero
returns-then-is_zero c =
    let bytes = c.args.bytes.items in
    let head = subst (λ (b : List ℕ). HasHead b c.in-Some.kind c.in-Some.count) c.deref.ensures.value c.in-Some.ensures.head in
    let placed = subst (λ (b : List ℕ). ArePlaced c.in-Some.count b c.place_rows.new.starts.items c.in-Some-place_rows.end) c.deref-2.ensures.value c.in-Some-place_rows.ensures in
    let zeros : list_all (λ x. x == 0) (drop c.in-Some-place_rows.end bytes) ≡ true = ap (λ (b : List ℕ). list_all (λ x. x == 0) (drop c.in-Some-place_rows.end b)) (sym c.deref-in-Some-place_rows.ensures.value) ∙ ap (list_all (λ x. x == 0)) (sym c.from_place.ensures) ∙ sym c.if-is_zero.ensures in
    let all : AreBytes bytes = subst AreBytes c.deref.ensures.value c.in-Some.ensures.bytes in
    is_page bytes c.place_rows.new.starts.items c.in-Some.kind c.in-Some.count c.in-Some-place_rows.end head all placed zeros

pub returns-else-is_zero : goal.returns-else-is_zero
returns-else-is_zero c =
    let bytes = c.args.bytes.items in
    let head = subst (λ (b : List ℕ). HasHead b c.in-Some.kind c.in-Some.count) c.deref.ensures.value c.in-Some.ensures.head in
    let placed = subst (λ (b : List ℕ). ArePlaced c.in-Some.count b c.place_rows.new.starts.items c.in-Some-place_rows.end) c.deref-2.ensures.value c.in-Some-place_rows.ensures in
    let zeros : list_all (λ x. x == 0) (drop c.in-Some-place_rows.end bytes) ≡ false = ap (λ (b : List ℕ). list_all (λ x. x == 0) (drop c.in-Some-place_rows.end b)) (sym c.deref-in-Some-place_rows.ensures.value) ∙ ap (list_all (λ x. x == 0)) (sym c.from_place.ensures) ∙ sym c.if-is_zero.ensures in
    is_none bytes c.place_rows.new.starts.items c.in-Some.kind c.in-Some.count c.in-Some-place_rows.end head placed zeros

pub returns-in-None : goal.returns-in-None
returns-in-None c =
    let bytes = c.args.bytes.items in
    let head = subst (λ (b : List ℕ). HasHead b c.in-Some.kind c.in-Some.count) c.deref.ensures.value c.in-Some.ensures.head in
    has_none bytes c.place_rows.new.starts.items c.in-Some.kind c.in-Some.count 0 head (subst (λ (b : List ℕ). has_rows c.in-Some.count (drop 3 b) ≡ false) c.deref-2.ensures.value c.in-None.ensures)
