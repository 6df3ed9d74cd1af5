-- Header pages, as they are written and read.
use Rattle.std.proofs.Common.{◌≡◌, ℕ, zero, suc, ◌+◌, ◌*◌, ◌^◌, ◌<◌, ◌≤◌, true, false, cond, ◌&&◌, List, ◌∷◌, ◌++◌, length, take, drop, get_or, Option, Some, refl, sym, ◌∙◌, ap, arith}
use Rattle.std.specs.Prelude.{◌==◌, nat_le, replicate}
use Rattle.std.proofs.lemmas.Bool.{lt-ltb, le-leb}
use Rattle.std.specs.List.{list_all}
use Rattle.std.specs.Int.{w32, from_be_bytes, to_be_bytes}
use Rattle.std.proofs.lemmas.Nat.{from_be_bytes-to_be_bytes_4, from_be_bytes-to_be_bytes_8}
use Rattle.std.proofs.lemmas.List.{length-replicate, take_all, get_or-take, get_or-drop}
use Rattle.drda_words.specs.Place.{part}
use Rattle.half_store.specs.Header.{header_in, is_inside, half_in, layout_of, layout_word, opened}
use Rattle.half_store.specs.Fresh.{zeros, header_bytes}
use Rattle.half_store.specs.declared.header.Header.{Header}
use Rattle.half_store.specs.declared.header.Layout.{Layout}
use Rattle.half_store.specs.declared.header.Layout.TheVariants.{One, Two}
use Rattle.half_store.specs.declared.header.HalfState.TheVariants.{Closed, Unsound, Open}

pub length-zeros : (n : ℕ) → length (zeros n) ≡ n
unfolding zeros
length-zeros n = length-replicate n 0

all_zeros : (k n : ℕ) → list_all (λ b. b == 0) (take k (replicate n 0)) ≡ true
all_zeros zero n = refl
all_zeros (suc k) zero = refl
all_zeros (suc k) (suc n) = all_zeros k n

pub zeros_blank : (k n : ℕ) → list_all (λ b. b == 0) (take k (zeros n)) ≡ true
unfolding zeros
zeros_blank k n = all_zeros k n

pub zeros_whole : (n : ℕ) → list_all (λ b. b == 0) (zeros n) ≡ true
zeros_whole n = ap (λ (l : List ℕ). list_all (λ b. b == 0) l) (sym (take_all n (zeros n) (omega (arith, length-zeros n)))) ∙ zeros_blank n n

same_at : (x n i : ℕ) → get_or (replicate n x) i x ≡ x
same_at x zero i = refl
same_at x (suc n) zero = refl
same_at x (suc n) (suc i) = same_at x n i

pub zeros_at : (n i : ℕ) → get_or (zeros n) i 0 ≡ 0
unfolding zeros
zeros_at n i = same_at 0 n i

-- a byte of a part
pub byte_in_part : (file : List ℕ) (at n i : ℕ) → i < n → get_or (part file at n) i 0 ≡ get_or file (at + i) 0
byte_in_part file at n i low = get_or-take n (drop at file) i 0 low ∙ get_or-drop at file i 0

-- a page with a closed gate
pub half_closed : (h : ℕ) (page : List ℕ) → (get_or page 0 0 == 165) ≡ false → half_in h page ≡ Closed
unfolding half_in
half_closed h page shut = ap (λ b. cond b (opened h page (layout_of (from_be_bytes w32 (part page 21 4)))) Closed) shut

pub record Fits (header : Header) : Type 0 where
  pub generation : header.generation < 2 ^ 64
  pub pages : header.pages < 2 ^ 32
  pub first_catalogue : header.first_catalogue < 2 ^ 32
  pub catalogue_pages : header.catalogue_pages < 2 ^ 32

header_back : (header : Header) (z : List ℕ) → Fits header → header_in header.layout (165 ∷ (header_bytes header ++ z)) ≡ header
header_back header z fits =
    let make : ℕ → ℕ → ℕ → ℕ → Header = λ g p f k. record { generation = g; pages = p; first_catalogue = f; catalogue_pages = k; layout = header.layout } in
    let back : ℕ → ℕ = λ n. from_be_bytes w32 (to_be_bytes w32 n) in
    ap (λ g. make g (back header.pages) (back header.first_catalogue) (back header.catalogue_pages)) (from_be_bytes-to_be_bytes_8 header.generation fits.generation)
    ∙ ap (λ p. make header.generation p (back header.first_catalogue) (back header.catalogue_pages)) (from_be_bytes-to_be_bytes_4 header.pages fits.pages)
    ∙ ap (λ f. make header.generation header.pages f (back header.catalogue_pages)) (from_be_bytes-to_be_bytes_4 header.first_catalogue fits.first_catalogue)
    ∙ ap (λ k. make header.generation header.pages header.first_catalogue k) (from_be_bytes-to_be_bytes_4 header.catalogue_pages fits.catalogue_pages)

-- the layout that its number names
layout_back : (layout : Layout) → layout_of (from_be_bytes w32 (to_be_bytes w32 (layout_word layout))) ≡ Some layout
layout_back One = refl
layout_back Two = refl

-- a header behind an open gate, and zeros
pub half_open : (h : ℕ) (header : Header) (z : List ℕ) → Fits header → is_inside h header ≡ true → list_all (λ b. b == 0) z ≡ true → half_in h (165 ∷ (header_bytes header ++ z)) ≡ Open header
unfolding half_in
half_open h header z fits inside blank =
    let page = 165 ∷ (header_bytes header ++ z) in
    ap (λ (l : Option Layout). opened h page l) (layout_back header.layout)
    ∙ ap (λ (x : Header). cond (is_inside h x && list_all (λ b. b == 0) z) (Open x) Unsound) (header_back header z fits)
    ∙ ap (λ b. cond (b && list_all (λ b. b == 0) z) (Open header) Unsound) inside
    ∙ ap (λ b. cond (true && b) (Open header) Unsound) blank

pub is_inside_true : (h : ℕ) (header : Header) → 8192 * (1 + header.pages) < h → header.first_catalogue + header.catalogue_pages ≤ header.pages → is_inside h header ≡ true
is_inside_true h header room catalogue =
    ap (λ b. b && nat_le (header.first_catalogue + header.catalogue_pages) header.pages) (lt-ltb (8192 * (1 + header.pages)) h room) ∙ ap (λ b. true && b) (le-leb (header.first_catalogue + header.catalogue_pages) header.pages catalogue)
