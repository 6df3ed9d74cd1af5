-- Rows that are laid, one by one.
use Rattle.std.proofs.Common.{◌≡◌, ◌⊎◌, inl, inr, ℕ, ◌+◌, ◌*◌, ◌<◌, ◌≤◌, List, [], ◌∷◌, ◌++◌, length, Bool, true, false, arith, refl, sym, ap, subst, ◌∙◌, append_assoc, append-nil, length-append}
use Rattle.std.specs.Prelude.{Result, Ok, Err, Some, if◌then◌else◌, IsTrue}
use Rattle.std.specs.List.{AllByRecursion, slice_get}
use Rattle.std.proofs.lemmas.Bool.{le-leb}
use Rattle.drda_words.specs.Place.{part}
use Rattle.drda_disk.specs.Disk.{Torn}
use Rattle.drda_disk.proofs.Parts.{part_outside}
use Rattle.row_pages.specs.Page.{Fits, IsPage, Page, row_bytes, rows_bytes}
use Rattle.row_pages.specs.Laying.{HasSome, IsShort, ended, fits, laid, laid_behind}
use Rattle.row_pages.specs.declared.page.PageKind.{PageKind}
use Rattle.row_pages.proofs.LaidPages.{all_short, no_room, page_alone, page_behind}
use Rattle.half_store.specs.Writing.{next_of}
use Rattle.half_store.specs.declared.image.ImageWriter.{ImageWriter}
use Rattle.table_map.specs.Keyed.{first_key, first_keys}
use Rattle.table_map.specs.Whole.{TakesMore}
use Rattle.checkpoint_writer.specs.Errors.{TellsFull}
use Rattle.checkpoint_writer.specs.Laying.{BeginsPage, IsLaying, StandAt, has_none, key_if}
use Rattle.checkpoint_writer.specs.declared.errors.ImageError.{ImageError}
use Rattle.checkpoint_writer.specs.declared.errors.ImageError.TheVariants.{NoMemory, DeviceFailed, Damaged, Full}
use Rattle.checkpoint_writer.specs.declared.rows.RowWriter.{RowWriter}

keys_append : (key_of : List ℕ → List ℕ) (a b : List (List (List ℕ))) → first_keys key_of (a ++ b) ≡ first_keys key_of a ++ first_keys key_of b
keys_append key_of [] b = refl
keys_append key_of (p ∷ a) b = ap (λ (l : List (List ℕ)). first_key key_of p ∷ l) (keys_append key_of a b)

-- ---- pages on the disk

pub stand_more : (kind : PageKind) (file : List ℕ) (at : ℕ) (a b : List (List (List ℕ))) → StandAt kind file at a → StandAt kind file (at + 8192 * length a) b → StandAt kind file at (a ++ b)
stand_more kind file at [] b first second = let same : at + 8192 * 0 ≡ at = omega arith in subst (λ n. StandAt kind file n b) same second
stand_more kind file at (p ∷ a) b first second =
    let same : at + 8192 * length (p ∷ a) ≡ at + 8192 + 8192 * length a = omega arith in
    (first.0, stand_more kind file (at + 8192) a b first.1 (subst (λ n. StandAt kind file n b) same second))

pub stand_moves : (kind : PageKind) (old new : List ℕ) (from n at : ℕ) (pages : List (List (List ℕ))) → Torn from n old new → at + 8192 * length pages ≤ from → StandAt kind old at pages → StandAt kind new at pages
stand_moves kind old new from n at [] torn low stand = tt
stand_moves kind old new from n at (p ∷ pages) torn low stand = (
  subst (λ (l : List ℕ). IsPage (record { kind = kind; rows = p }) l) (sym (part_outside from n at 8192 old new torn (inl (omega (arith, low))))) stand.0,
  stand_moves kind old new from n (at + 8192) pages torn (omega (arith, low)) stand.1,
)

-- ---- one row

alone_fits : (row : List ℕ) → IsShort row → fits (row ∷ []) ≡ true
alone_fits row short =
    let one : length (row_bytes row) ≡ 2 + length row = omega arith in
    le-leb (3 + length (rows_bytes (row ∷ []))) 8192 (omega (arith, one, length-append (row_bytes row) [], short))

some_ended : (page : List (List ℕ)) (row : List ℕ) → IsShort row → fits (page ++ row ∷ []) ≡ false → ended page ≡ page ∷ []
some_ended [] row short past = apart (sym (alone_fits row short) ∙ past)
  where
    apart : true ≡ false → ended [] ≡ [] ∷ []
    apart e = absurd cc
some_ended (r ∷ page) row short past = refl

key_in_page : (key_of : List ℕ → List ℕ) (page : List (List ℕ)) (row : List ℕ) (empty : Bool) → empty ≡ has_none page → first_keys key_of (ended (page ++ row ∷ [])) ≡ first_keys key_of (ended page) ++ key_if empty (key_of row)
key_in_page key_of [] row empty is = ap (λ b. key_if b (key_of row)) (sym is)
key_in_page key_of (r ∷ page) row empty is = ap (λ b. (key_of r ∷ []) ++ key_if b (key_of row)) (sym is)

short_more : (rows : List (List ℕ)) (row : List ℕ) → AllByRecursion IsShort rows → IsShort row → AllByRecursion IsShort (rows ++ row ∷ [])
short_more [] row all short = (short, tt)
short_more (r ∷ rows) row all short = (all.0, short_more rows row all.1 short)

short_all : (rows more : List (List ℕ)) → AllByRecursion IsShort rows → AllByRecursion IsShort more → AllByRecursion IsShort (rows ++ more)
short_all [] more all short = short
short_all (r ∷ rows) more all short = (all.0, short_all rows more all.1 short)

-- ---- rows that begin a page

pub begins_empty : (writer : RowWriter) (room : ℕ) → writer.is_empty ≡ true → (rows : List (List ℕ)) → TakesMore room rows → BeginsPage writer rows
begins_empty writer room none [] more = absurd more
begins_empty writer room none (row ∷ rows) more = inl none

pub begins_full : (writer : RowWriter) (room : ℕ) → 3 + length (rows_bytes writer.page.rows) + room ≡ 8192 → (rows : List (List ℕ)) → TakesMore room rows → BeginsPage writer rows
begins_full writer room left [] more = absurd more
begins_full writer room left (row ∷ rows) more = inr (no_room writer.page.rows row room left more)

pub begins_some : (writer : RowWriter) (rows : List (List ℕ)) → BeginsPage writer rows → 0 < length rows
begins_some writer [] begins = absurd begins
begins_some writer (row ∷ rows) begins = omega arith

begins_none : (writer : RowWriter) (rows : List (List ℕ)) → BeginsPage writer rows → false ≡ has_none rows
begins_none writer [] begins = absurd begins
begins_none writer (row ∷ rows) begins = refl

pub first_there : (key_of : List ℕ → List ℕ) (rows : List (List ℕ)) (row : List ℕ) → slice_get rows 0 ≡ Some row → key_of row ≡ first_key key_of rows
first_there key_of [] row is = absurd cc
first_there key_of (r ∷ rows) row is = let same : r ≡ row = cc in ap key_of (sym same)

pub tells_more : {T : Type 0} (result : Result T ImageError) (end a b : ℕ) → a ≤ b → TellsFull result end a → TellsFull result end b
tells_more (Ok x) end a b le tells = tt
tells_more (Err NoMemory) end a b le tells = tt
tells_more (Err DeviceFailed) end a b le tells = tt
tells_more (Err Damaged) end a b le tells = tt
tells_more (Err (Full full)) end a b le tells = (tells.0, omega (arith, le, tells.1))

module _ (modelled : Bool) (file : List ℕ) (start : ℕ) (image : ImageWriter) (writer : RowWriter) (rows : List (List ℕ)) (held : IsLaying modelled file start image writer rows) where
  abbrev page : List (List ℕ)
  page = writer.page.rows

  so_far : laid rows ≡ held.full ++ ended page
  so_far = ap laid (sym (append-nil rows)) ∙ held.same []

  -- it stands in the page

  in_page : (row : List ℕ) → fits (page ++ row ∷ []) ≡ true → laid (rows ++ row ∷ []) ≡ held.full ++ ended (page ++ row ∷ [])
  in_page row fit = held.same (row ∷ []) ∙ ap (λ b. held.full ++ (if b then laid_behind (page ++ row ∷ []) [] else page ∷ laid_behind (row ∷ []) [])) fit

  pub key_there : (row : List ℕ) (key_of : List ℕ → List ℕ) → fits (page ++ row ∷ []) ≡ true → first_keys key_of (laid (rows ++ row ∷ [])) ≡ first_keys key_of (laid rows) ++ key_if writer.is_empty (key_of row)
  key_there row key_of fit =
      ap (λ (l : List (List (List ℕ))). first_keys key_of l) (in_page row fit)
      ∙ keys_append key_of held.full (ended (page ++ row ∷ []))
      ∙ ap (λ (l : List (List ℕ)). first_keys key_of held.full ++ l) (key_in_page key_of page row writer.is_empty held.empty)
      ∙ sym (append_assoc (first_keys key_of held.full) (first_keys key_of (ended page)) (key_if writer.is_empty (key_of row)))
      ∙ ap (λ (l : List (List ℕ)). l ++ key_if writer.is_empty (key_of row)) (sym (keys_append key_of held.full (ended page)) ∙ ap (λ (l : List (List (List ℕ))). first_keys key_of l) (sym so_far))

  -- it is the first of the next page

  next_page : (row : List ℕ) (rest : List (List ℕ)) → fits (page ++ row ∷ []) ≡ false → laid (rows ++ row ∷ rest) ≡ (held.full ++ page ∷ []) ++ laid_behind (row ∷ []) rest
  next_page row rest past =
      held.same (row ∷ rest) ∙ ap (λ b. held.full ++ (if b then laid_behind (page ++ row ∷ []) rest else page ∷ laid_behind (row ∷ []) rest)) past
      ∙ sym (append_assoc held.full (page ∷ []) (laid_behind (row ∷ []) rest))

  pub key_next : (row : List ℕ) (key_of : List ℕ → List ℕ) → IsShort row → fits (page ++ row ∷ []) ≡ false → first_keys key_of (laid (rows ++ row ∷ [])) ≡ first_keys key_of (laid rows) ++ key_of row ∷ []
  key_next row key_of short past =
      ap (λ (l : List (List (List ℕ))). first_keys key_of l) (next_page row [] past)
      ∙ keys_append key_of (held.full ++ page ∷ []) ((row ∷ []) ∷ [])
      ∙ ap (λ (l : List (List (List ℕ))). first_keys key_of l ++ key_of row ∷ []) (ap (λ (l : List (List (List ℕ))). held.full ++ l) (sym (some_ended page row short past)) ∙ sym so_far)

  -- what stands where a page was written behind the others
  page_stands : (new : List ℕ) (n : ℕ) (bytes : List ℕ) → Torn (next_of image) n file new → IsPage writer.page bytes → (IsTrue modelled → part new (next_of image) 8192 ≡ bytes) → IsTrue modelled → StandAt writer.page.kind new start (held.full ++ page ∷ [])
  page_stands new n bytes torn is written honest =
      stand_more writer.page.kind new start held.full (page ∷ [])
      (stand_moves writer.page.kind file new (next_of image) n start held.full torn (omega (arith, held.next)) (held.stand honest))
      (subst (λ k. IsPage writer.page (part new k 8192)) held.next (subst (λ (l : List ℕ). IsPage writer.page l) (sym (written honest)) is), tt)

  pub next_laid : (new : List ℕ) (n : ℕ) (bytes row : List ℕ) (after : ImageWriter) (p : Page) → Torn (next_of image) n file new → IsPage writer.page bytes → (IsTrue modelled → part new (next_of image) 8192 ≡ bytes) → next_of after ≡ next_of image + 8192
      → IsShort row → fits (page ++ row ∷ []) ≡ false → p ≡ record { kind = writer.page.kind; rows = row ∷ [] } → IsLaying modelled new start after (record { page = p; is_empty = false }) (rows ++ row ∷ [])
  next_laid new n bytes row after p torn is written one short past same =
      subst (λ (q : Page). IsLaying modelled new start after (record { page = q; is_empty = false }) (rows ++ row ∷ [])) (sym same)
      record {
        full = held.full ++ page ∷ [];
        stand = page_stands new n bytes torn is written;
        next = omega (arith, one, held.next, length-append held.full (page ∷ []));
        same = λ rest. ap laid (append_assoc rows (row ∷ []) rest) ∙ next_page row rest past;
        empty = refl;
        short = short_more rows row held.short short;
      }

  -- ---- a page goes on to be filled

  none_rows : (l : List (List ℕ)) → true ≡ has_none l → l ≡ []
  none_rows [] e = refl
  none_rows (r ∷ l) e = absurd cc

  some_rows : (l : List (List ℕ)) → false ≡ has_none l → HasSome l
  some_rows [] e = absurd cc
  some_rows (r ∷ l) e = tt

  first_page : (more rest : List (List ℕ)) → writer.is_empty ≡ true → Fits more → laid (rows ++ (more ++ rest)) ≡ held.full ++ laid_behind more rest
  first_page more rest none fit =
      held.same (more ++ rest)
      ∙ ap (λ (l : List (List ℕ)). held.full ++ laid_behind l (more ++ rest)) (none_rows page (sym none ∙ held.empty))
      ∙ ap (λ (l : List (List (List ℕ))). held.full ++ l) (page_alone more rest fit)

  no_fit : (row : List ℕ) → writer.is_empty ≡ false → (writer.is_empty ≡ true) ⊎ (Fits (page ++ row ∷ []) → ⊥) → Fits (page ++ row ∷ []) → ⊥
  no_fit row some (inl none) fit = apart (sym some ∙ none)
    where
      apart : false ≡ true → ⊥
      apart e = absurd cc
  no_fit row some (inr never) fit = never fit

  page_next : (more rest : List (List ℕ)) → writer.is_empty ≡ false → BeginsPage writer more → Fits more → laid (rows ++ (more ++ rest)) ≡ (held.full ++ page ∷ []) ++ laid_behind more rest
  page_next [] rest some begins fit = absurd begins
  page_next (row ∷ more) rest some begins fit =
      held.same ((row ∷ more) ++ rest)
      ∙ ap (λ (l : List (List (List ℕ))). held.full ++ l) (page_behind page row more rest (some_rows page (sym some ∙ held.empty)) (no_fit row some begins) fit)
      ∙ sym (append_assoc held.full (page ∷ []) (laid_behind (row ∷ more) rest))

  pub first_page_laid : (more : List (List ℕ)) (p : Page) → writer.is_empty ≡ true → BeginsPage writer more → Fits more → p ≡ record { kind = writer.page.kind; rows = more }
      → IsLaying modelled file start image (record { page = p; is_empty = false }) (rows ++ more)
  first_page_laid more p none begins fit same =
      subst (λ (q : Page). IsLaying modelled file start image (record { page = q; is_empty = false }) (rows ++ more)) (sym same)
      record {
        full = held.full;
        stand = held.stand;
        next = held.next;
        same = λ rest. ap laid (append_assoc rows more rest) ∙ first_page more rest none fit;
        empty = begins_none writer more begins;
        short = short_all rows more held.short (all_short more fit);
      }

  pub next_page_laid : (new : List ℕ) (n : ℕ) (bytes : List ℕ) (more : List (List ℕ)) (after : ImageWriter) (p : Page) → Torn (next_of image) n file new → IsPage writer.page bytes → (IsTrue modelled → part new (next_of image) 8192 ≡ bytes)
      → next_of after ≡ next_of image + 8192 → writer.is_empty ≡ false → BeginsPage writer more → Fits more → p ≡ record { kind = writer.page.kind; rows = more } → IsLaying modelled new start after (record { page = p; is_empty = false }) (rows ++ more)
  next_page_laid new n bytes more after p torn is written one some begins fit same =
      subst (λ (q : Page). IsLaying modelled new start after (record { page = q; is_empty = false }) (rows ++ more)) (sym same)
      record {
        full = held.full ++ page ∷ [];
        stand = page_stands new n bytes torn is written;
        next = omega (arith, one, held.next, length-append held.full (page ∷ []));
        same = λ rest. ap laid (append_assoc rows more rest) ∙ page_next more rest some begins fit;
        empty = begins_none writer more begins;
        short = short_all rows more held.short (all_short more fit);
      }

  key_of_page : (full : List (List (List ℕ))) (more : List (List ℕ)) (key_of : List ℕ → List ℕ) → BeginsPage writer more → laid (rows ++ (more ++ [])) ≡ full ++ ended more → laid rows ≡ full
      → first_keys key_of (laid (rows ++ more)) ≡ first_keys key_of (laid rows) ++ first_key key_of more ∷ []
  key_of_page full [] key_of begins all so = absurd begins
  key_of_page full (row ∷ more) key_of begins all so =
      ap (λ (l : List (List ℕ)). first_keys key_of (laid (rows ++ l))) (sym (append-nil (row ∷ more)))
      ∙ ap (λ (l : List (List (List ℕ))). first_keys key_of l) all
      ∙ keys_append key_of full ((row ∷ more) ∷ [])
      ∙ ap (λ (l : List (List (List ℕ))). first_keys key_of l ++ key_of row ∷ []) (sym so)

  -- ---- at the end

  none_ended : (l : List (List ℕ)) → true ≡ has_none l → ended l ≡ []
  none_ended [] e = refl
  none_ended (r ∷ l) e = absurd cc

  one_ended : (l : List (List ℕ)) → false ≡ has_none l → ended l ≡ l ∷ []
  one_ended [] e = absurd cc
  one_ended (r ∷ l) e = refl

  pub all_full : writer.is_empty ≡ true → laid rows ≡ held.full
  all_full none = so_far ∙ ap (λ (l : List (List (List ℕ))). held.full ++ l) (none_ended page (sym none ∙ held.empty)) ∙ append-nil held.full

  pub one_last : writer.is_empty ≡ false → laid rows ≡ held.full ++ page ∷ []
  one_last some = so_far ∙ ap (λ (l : List (List (List ℕ))). held.full ++ l) (one_ended page (sym some ∙ held.empty))

  pub first_page_key : (more : List (List ℕ)) (key_of : List ℕ → List ℕ) → writer.is_empty ≡ true → BeginsPage writer more → Fits more → first_keys key_of (laid (rows ++ more)) ≡ first_keys key_of (laid rows) ++ first_key key_of more ∷ []
  first_page_key more key_of none begins fit = key_of_page held.full more key_of begins (first_page more [] none fit) (all_full none)

  pub next_page_key : (more : List (List ℕ)) (key_of : List ℕ → List ℕ) → writer.is_empty ≡ false → BeginsPage writer more → Fits more → first_keys key_of (laid (rows ++ more)) ≡ first_keys key_of (laid rows) ++ first_key key_of more ∷ []
  next_page_key more key_of some begins fit = key_of_page (held.full ++ page ∷ []) more key_of begins (page_next more [] some begins fit) (one_last some)

  pub no_next : {T : Type 0} (result : Result T ImageError) (e : ImageError) (end : ℕ) (more rest : List (List ℕ)) → result ≡ Err e → writer.is_empty ≡ false → BeginsPage writer more → Fits more → TellsFull {T = T} (Err e) end (next_of image + 8192)
      → TellsFull result end (start + 8192 * length (laid (rows ++ (more ++ rest))))
  no_next {T = T} result e end more rest is some begins fit tells =
      subst (λ (r : Result T ImageError). TellsFull r end (start + 8192 * length (laid (rows ++ (more ++ rest))))) (sym is)
      (tells_more {T = T} (Err e) end (next_of image + 8192) (start + 8192 * length (laid (rows ++ (more ++ rest))))
      (omega (arith, held.next, ap length (page_next more rest some begins fit), length-append (held.full ++ page ∷ []) (laid_behind more rest), length-append held.full (page ∷ []))) tells)

  pub last_stands : (new : List ℕ) (n : ℕ) (bytes : List ℕ) → writer.is_empty ≡ false → Torn (next_of image) n file new → IsPage writer.page bytes → (IsTrue modelled → part new (next_of image) 8192 ≡ bytes) → IsTrue modelled
      → StandAt writer.page.kind new start (laid rows)
  last_stands new n bytes some torn is written honest = subst (λ (l : List (List (List ℕ))). StandAt writer.page.kind new start l) (sym (one_last some)) (page_stands new n bytes torn is written honest)

  pub last_next : (after : ImageWriter) → writer.is_empty ≡ false → next_of after ≡ next_of image + 8192 → next_of after ≡ start + 8192 * length (laid rows)
  last_next after some one = omega (arith, one, held.next, ap length (one_last some), length-append held.full (page ∷ []))

  pub no_last : {T : Type 0} (result : Result T ImageError) (e : ImageError) (end : ℕ) → result ≡ Err e → writer.is_empty ≡ false → TellsFull {T = T} (Err e) end (next_of image + 8192) → TellsFull result end (start + 8192 * length (laid rows))
  no_last {T = T} result e end is some tells =
      subst (λ (r : Result T ImageError). TellsFull r end (start + 8192 * length (laid rows))) (sym is)
      (tells_more {T = T} (Err e) end (next_of image + 8192) (start + 8192 * length (laid rows)) (omega (arith, held.next, ap length (one_last some), length-append held.full (page ∷ []))) tells)
