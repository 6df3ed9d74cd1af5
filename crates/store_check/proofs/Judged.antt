-- A page more that was judged.
use Rattle.std.proofs.Common.{◌≡◌, ℕ, ◌+◌, ◌*◌, ◌<◌, List, [], ◌∷◌, ◌++◌, length, length-append, Option, None, Result, Ok, Err, map, refl, sym, ap, subst, ◌∙◌, arith}
use Rattle.std.specs.Global.{Vec}
use Rattle.drda_words.specs.Place.{part}
use Rattle.row_values.specs.Schema.{Schema}
use Rattle.row_pages.specs.Page.{IsPage, Page}
use Rattle.row_pages.specs.Parsing.{OnePage}
use Rattle.row_pages.specs.Laying.{HasSome, rows_over}
use Rattle.row_pages.specs.Keeping.{TellsDamage}
use Rattle.row_pages.specs.declared.kept.PageFault.{PageFault}
use Rattle.row_pages.specs.declared.kept.PageFault.TheVariants as fault
use Rattle.table_map.specs.Keyed.{copied, first_key, first_keys}
use Rattle.table_map.specs.Stored.{Places}
use Rattle.store_check.specs.Errors.{error_at}
use Rattle.store_check.specs.Judging.{GoesOn, JudgesBytes, JudgesPage, go_on, last_key}
use Rattle.store_check.specs.Whole.{ChecksTable, IsFirstBad, IsWhole}
use Rattle.store_check.specs.declared.errors.CheckError.{CheckError}
use Rattle.store_check.specs.declared.errors.CheckError.TheVariants.{NoMemory, DeviceFailed, Damaged}
use Rattle.store_check.proofs.Rising.{joined, last_joined, parted}
use Rattle.store_check.proofs.Standing.{a_page, all_last, all_more, keys_more, rows_more, stand_last, stand_more}
use Rattle.store_check.proofs.Whole.{AreGood, is_good, is_whole, one_list}

-- ---- one page

-- a page that was not read
pub not_read : (T : Type 0) (schema : Schema) (key_of : List ℕ → List ℕ) (at : ℕ) (bytes : List ℕ) (old : Option (Vec ℕ)) (f : PageFault) → TellsDamage {T = T} bytes (Err f) → (e : CheckError) → e ≡ error_at at f → JudgesBytes schema key_of at bytes old (Err e) old
not_read T schema key_of at bytes old f tells e is = subst (λ (x : CheckError). JudgesBytes schema key_of at bytes old (Err x) old) (sym is) (by_fault f tells)
  where
    by_fault : (f : PageFault) → TellsDamage {T = T} bytes (Err f) → JudgesBytes schema key_of at bytes old (Err (error_at at f)) old
    by_fault fault.NoMemory tells = tt
    by_fault fault.DeviceFailed tells = tt
    by_fault fault.Damaged tells = (refl, λ rows is goes. tells (a_page rows) is)

-- what is told of a page is told of its bytes
pub bytes_judged : OnePage → (schema : Schema) (key_of : List ℕ → List ℕ) (at : ℕ) (bytes : List ℕ) (page : Page) (old new : Option (Vec ℕ)) (result : Result (Vec ℕ) CheckError) → IsPage page bytes → JudgesPage schema key_of at page old result new → JudgesBytes schema key_of at bytes old result new
bytes_judged law schema key_of at bytes page old new (Ok key) is judged =
    (page.rows, subst (λ k. IsPage (record { kind = k; rows = page.rows }) bytes) judged.0 is, judged.1, judged.2, judged.3)
bytes_judged law schema key_of at bytes page old new (Err (Damaged here)) is judged = (
  judged.0,
  λ rows other goes.
      let same = law page (a_page rows) bytes is other in
      judged.1 (ap (λ (p : Page). p.kind) same) (subst (λ (l : List (List ℕ)). GoesOn schema key_of (copied old) l) (ap (λ (p : Page). p.rows) (sym same)) goes),
)
bytes_judged law schema key_of at bytes page old new (Err NoMemory) is judged = tt
bytes_judged law schema key_of at bytes page old new (Err DeviceFailed) is judged = tt

-- ---- the pages so far

-- so many pages were judged: they are good, and these are the keys of their first rows and of the last of all
pub record AreJudged (schema : Schema) (key_of : List ℕ → List ℕ) (file : List ℕ) (at n : ℕ) (keys : List (List ℕ)) (last : Option (List ℕ)) : Type 0 where
  pub pages : List (List (List ℕ))
  pub many : length pages ≡ n
  pub good : AreGood schema key_of file at pages
  pub keys_are : keys ≡ first_keys key_of pages
  pub last_is : last ≡ last_key key_of None (rows_over pages)

-- and these are their rows
pub record AreNoted (schema : Schema) (key_of : List ℕ → List ℕ) (file : List ℕ) (at n : ℕ) (keys : List (List ℕ)) (last : Option (List ℕ)) (noted : List (List ℕ)) : Type 0 where
  pub judged : AreJudged schema key_of file at n keys last
  pub rows_are : noted ≡ rows_over judged.pages

module _ (schema : Schema) (key_of : List ℕ → List ℕ) (file : List ℕ) (at : ℕ) where
  pub none_judged : (keys : List (Vec ℕ)) → keys ≡ [] → AreJudged schema key_of file at 0 (map (λ k. k.items) keys) None
  none_judged keys none = record {
    pages = [];
    many = refl;
    good = record { stand = tt; some = tt; rising = refl };
    keys_are = ap (λ (l : List (Vec ℕ)). map (λ k. k.items) l) none;
    last_is = refl;
  }

  -- a page more
  pub one_more : (n : ℕ) (keys : List (List ℕ)) (key : Vec ℕ) (old new : Option (Vec ℕ)) → AreJudged schema key_of file at n keys (copied old) → JudgesBytes schema key_of (at + 8192 * n) (part file (at + 8192 * n) 8192) old (Ok key) new
      → AreJudged schema key_of file at (n + 1) (keys ++ key.items ∷ []) (copied new)
  one_more n keys key old new so told =
      let page = told.0 in
      let goes = told.2 in
      record {
        pages = so.pages ++ page ∷ [];
        many = length-append so.pages (page ∷ []) ∙ ap (λ (m : ℕ). m + 1) so.many;
        good = record {
          stand = stand_more file at (at + 8192 * n) so.pages page (ap (λ (m : ℕ). at + 8192 * m) (sym so.many)) so.good.stand told.1;
          some = all_more HasSome so.pages page so.good.some goes.some;
          rising =
              ap (λ (rows : List (List ℕ)). go_on schema key_of None rows) (rows_more so.pages page)
              ∙ joined schema key_of None (rows_over so.pages) page so.good.rising (ap (λ (l : Option (List ℕ)). go_on schema key_of l page) (sym so.last_is) ∙ goes.rising);
        };
        keys_are = ap (λ (k : List ℕ). keys ++ k ∷ []) told.3 ∙ ap (λ (l : List (List ℕ)). l ++ first_key key_of page ∷ []) so.keys_are ∙ sym (keys_more key_of so.pages page);
        last_is =
            told.4
            ∙ ap (λ (l : Option (List ℕ)). last_key key_of l page) so.last_is
            ∙ sym (last_joined key_of None (rows_over so.pages) page)
            ∙ ap (λ (rows : List (List ℕ)). last_key key_of None rows) (sym (rows_more so.pages page));
      }

  -- a page that is none that goes on is the first bad one
  pub first_bad : (n count here : ℕ) (keys : List (List ℕ)) (old new : Option (Vec ℕ)) → n < count → AreJudged schema key_of file at n keys (copied old) → JudgesBytes schema key_of (at + 8192 * n) (part file (at + 8192 * n) 8192) old (Err (Damaged here)) new
      → IsFirstBad schema key_of file at count here
  first_bad n count here keys old new low so told =
      let place : at + 8192 * n ≡ at + 8192 * length so.pages = ap (λ (m : ℕ). at + 8192 * m) (sym so.many) in
      record {
        front = so.pages;
        place = told.0 ∙ place;
        within = omega (arith, low, so.many);
        right = is_whole schema key_of file at so.pages so.good;
        bad = λ page whole.
            let good = is_good schema key_of file at (so.pages ++ page ∷ []) whole in
            told.1 page (stand_last file at (at + 8192 * n) so.pages page place good.stand)
            (record {
              some = all_last HasSome so.pages page good.some;
              rising =
                  ap (λ (l : Option (List ℕ)). go_on schema key_of l page) so.last_is
                  ∙ (parted schema key_of None (rows_over so.pages) page (ap (λ (rows : List (List ℕ)). go_on schema key_of None rows) (sym (rows_more so.pages page)) ∙ good.rising)).1;
            });
      }

  -- the check ends at an error
  pub stopped : (n count : ℕ) (keys : List (List ℕ)) (old new : Option (Vec ℕ)) (e : CheckError) → n < count → AreJudged schema key_of file at n keys (copied old) → JudgesBytes schema key_of (at + 8192 * n) (part file (at + 8192 * n) 8192) old (Err e) new
      → (result : Result Places CheckError) → result ≡ Err e → ChecksTable schema key_of file at count result
  stopped n count keys old new e low so told result is = subst (λ (r : Result Places CheckError). ChecksTable schema key_of file at count r) (sym is) (by_error e told)
    where
      by_error : (e : CheckError) → JudgesBytes schema key_of (at + 8192 * n) (part file (at + 8192 * n) 8192) old (Err e) new → ChecksTable schema key_of file at count (Err e)
      by_error NoMemory told = tt
      by_error DeviceFailed told = tt
      by_error (Damaged here) told = first_bad n count here keys old new low so told

  -- all pages were judged
  pub all_judged : (n count : ℕ) (keys : List (List ℕ)) (last : Option (List ℕ)) (places : Places) → n ≡ count → AreJudged schema key_of file at n keys last → places ≡ record { at = at; keys = keys } → ChecksTable schema key_of file at count (Ok places)
  all_judged n count keys last places all so is =
      (so.pages, record { whole = is_whole schema key_of file at so.pages so.good; many = so.many ∙ all }, is ∙ ap (λ (l : List (List ℕ)). record { at = at; keys = l }) so.keys_are)

  -- nor does it tell anything where there was no memory
  pub without_memory : (count : ℕ) (e : CheckError) (result : Result Places CheckError) → result ≡ Err e → e ≡ NoMemory → ChecksTable schema key_of file at count result
  without_memory count e result is none = subst (λ (r : Result Places CheckError). ChecksTable schema key_of file at count r) (sym (is ∙ ap (λ (x : CheckError). Err x) none)) tt

  -- ---- the rows that were noted

  pub none_noted : (keys : List (Vec ℕ)) (noted : List (List ℕ)) → keys ≡ [] → noted ≡ [] → AreNoted schema key_of file at 0 (map (λ k. k.items) keys) None noted
  unfolding none_judged
  none_noted keys noted none is = record { judged = none_judged keys none; rows_are = is }

  pub one_noted : (n : ℕ) (keys : List (List ℕ)) (key : Vec ℕ) (old new : Option (Vec ℕ)) (noted more : List (List ℕ)) → AreNoted schema key_of file at n keys (copied old) noted → JudgesBytes schema key_of (at + 8192 * n) (part file (at + 8192 * n) 8192) old (Ok key) new
      → ((rows : List (List ℕ)) → IsPage (a_page rows) (part file (at + 8192 * n) 8192) → more ≡ noted ++ rows) → AreNoted schema key_of file at (n + 1) (keys ++ key.items ∷ []) (copied new) more
  unfolding one_more
  one_noted n keys key old new noted more so told notes = record {
    judged = one_more n keys key old new so.judged told;
    rows_are = notes told.0 told.1 ∙ ap (λ (rows : List (List ℕ)). rows ++ told.0) so.rows_are ∙ sym (rows_more so.judged.pages told.0);
  }

  pub all_noted : OnePage → (n count : ℕ) (keys : List (List ℕ)) (last : Option (List ℕ)) (noted : List (List ℕ)) (pages : List (List (List ℕ))) → n ≡ count → AreNoted schema key_of file at n keys last noted → IsWhole schema key_of file at count pages → noted ≡ rows_over pages
  all_noted law n count keys last noted pages all so whole =
      so.rows_are ∙ ap rows_over (one_list schema key_of file at law count so.judged.pages pages (record { whole = is_whole schema key_of file at so.judged.pages so.judged.good; many = so.judged.many ∙ all }) whole)
