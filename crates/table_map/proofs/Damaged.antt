-- Where damage is told.
use Rattle.std.proofs.Common.{◌≡◌, ℕ, zero, suc, ◌+◌, ◌-◌, ◌*◌, ◌<◌, ◌≤◌, List, [], ◌∷◌, length, get_or, ap, ◌∙◌, subst, arith}
use Rattle.std.specs.Prelude.{Result, Ok, Err, IfErr}
use Rattle.std.specs.List.{AllByRecursion}
use Rattle.drda_words.specs.Place.{part}
use Rattle.row_pages.specs.Page.{IsPage, Page}
use Rattle.row_pages.specs.Keeping.{TellsDamage}
use Rattle.row_pages.specs.Laying.{HasSome}
use Rattle.row_pages.specs.declared.kept.PageFault.{PageFault}
use Rattle.row_pages.specs.declared.kept.PageFault.TheVariants.{NoMemory, DeviceFailed, Damaged}
use Rattle.row_pages.proofs.PageBytes.{one_page}
use Rattle.table_map.specs.Damage.{DamagedWhere, HasNoRows, IsNoPage, SomePage, StoredHasPage, StoredIsWhole}
use Rattle.table_map.proofs.Found.{page_there}
use Rattle.table_map.proofs.Opened.{many_first}

-- ---- faults

by_fault : {S : Type 0} (Q : Type 0) (e : PageFault) (result : Result S PageFault) → result ≡ Err e → (e ≡ Damaged → Q) → DamagedWhere Q result
by_fault Q e (Ok x) is f = tt
by_fault Q e (Err NoMemory) is f = tt
by_fault Q e (Err DeviceFailed) is f = tt
by_fault Q e (Err Damaged) is f = f cc

was_told : {T : Type 0} (P : Type 0) (e : PageFault) (from : Result T PageFault) → from ≡ Err e → DamagedWhere P from → e ≡ Damaged → P
was_told P e (Ok x) is told damaged = absurd cc
was_told P e (Err NoMemory) is told damaged = absurd cc
was_told P e (Err DeviceFailed) is told damaged = absurd cc
was_told P e (Err Damaged) is told damaged = told

-- a fault that is handed on
pub handed_on : {T S : Type 0} (P Q : Type 0) (e : PageFault) (from : Result T PageFault) (result : Result S PageFault) → from ≡ Err e → result ≡ Err e → (P → Q) → DamagedWhere P from → DamagedWhere Q result
handed_on P Q e from result was is f told = by_fault Q e result is (λ damaged. f (was_told P e from was told damaged))

-- what is told of a page
pub page_told : {T : Type 0} (bytes : List ℕ) (Q : Type 0) (result : Result T PageFault) → (IsNoPage bytes → Q) → TellsDamage bytes result → DamagedWhere Q result
page_told bytes Q (Ok x) f told = tt
page_told bytes Q (Err NoMemory) f told = tt
page_told bytes Q (Err DeviceFailed) f told = tt
page_told bytes Q (Err Damaged) f told = f told

-- it holds where another does
pub where_too : {T : Type 0} (P Q : Type 0) (result : Result T PageFault) → (P → Q) → DamagedWhere P result → DamagedWhere Q result
where_too P Q (Ok x) f told = tt
where_too P Q (Err NoMemory) f told = tt
where_too P Q (Err DeviceFailed) f told = tt
where_too P Q (Err Damaged) f told = f told

-- where there is no fault but of memory
pub only_memory : {T : Type 0} (Q : Type 0) (result : Result T PageFault) → IfErr result (λ e. e ≡ NoMemory) → DamagedWhere Q result
only_memory Q (Ok x) is = tt
only_memory Q (Err NoMemory) is = tt
only_memory Q (Err DeviceFailed) is = tt
only_memory Q (Err Damaged) is = absurd cc

-- ---- pages

-- bytes that are no page have no rows
pub no_page : (bytes : List ℕ) → IsNoPage bytes → HasNoRows bytes
no_page bytes none page is = absurd (none page is)

pub no_items : (rows : List (List ℕ)) → length rows ≡ 0 → rows ≡ []
no_items [] is = cc
no_items (row ∷ rows) is = absurd (omega (arith, is))

-- a page without rows
pub no_rows : (page : Page) (bytes : List ℕ) → IsPage page bytes → page.rows ≡ [] → HasNoRows bytes
no_rows page bytes is none other it = ap (λ (p : Page). p.rows) (one_page other page bytes it is) ∙ none

-- the first of some pages
pub at_front : (P : List ℕ → Type 0) (file : List ℕ) (at count : ℕ) → 0 < count → P (part file at 8192) → SomePage P file at count
at_front P file at count some is =
    let same : at ≡ at + 8192 * 0 = omega arith in
    record { number = 0; within = some; is = subst (λ n. P (part file n 8192)) same is }

-- one of those that are left is one of all
pub of_left : (P : List ℕ → Type 0) (file : List ℕ) (at count next left : ℕ) → next + 8192 * left ≡ at + 8192 * count → at ≤ next → SomePage P file next left → SomePage P file at count
of_left P file at count next left end forward some =
    let same : next + 8192 * some.number ≡ at + 8192 * (count - left + some.number) = omega (arith, end, forward, some.within) in
    record {
      number = count - left + some.number;
      within = omega (arith, end, forward, some.within);
      is = subst (λ n. P (part file n 8192)) same some.is;
    }

-- ---- tables that stand there

has_some : (pages : List (List (List ℕ))) (i : ℕ) → i < length pages → AllByRecursion HasSome pages → get_or pages i [] ≡ [] → ⊥
has_some [] i low some none = absurd (omega arith)
has_some ([] ∷ pages) zero low some none = some.0
has_some ((row ∷ rows) ∷ pages) zero low some none = absurd cc
has_some (page ∷ pages) (suc i) low some none = has_some pages i (omega arith) some.1 none

pub stored_is_whole : StoredIsWhole
stored_is_whole key_of places pages file is some =
    let many : length places.keys ≡ length pages = ap length is.first ∙ many_first key_of pages in
    let low : some.number < length pages = omega (arith, many, some.within) in
    has_some pages some.number low is.some (some.is _ (page_there key_of [] file places.at pages some.number is.stand low))

pub stored_has_page : StoredHasPage
stored_has_page key_of key places pages file is lacks =
    let many : length places.keys ≡ length pages = ap length is.first ∙ many_first key_of pages in
    lacks.none _ (page_there key_of [] file places.at pages lacks.number is.stand (omega (arith, many, lacks.place.within)))
