use Rattle.std.proofs.Common.{rules, ◌≡◌, ◌+◌, ◌*◌, ◌∙◌, ◌∷◌, [], ℕ, List, None, Ok, Err, length, length-append, map, refl, sym, ap, subst, arith}
use Rattle.std.specs.Global.{Vec}
use Rattle.std.proofs.lemmas.List.{length-map, map-append}
use Rattle.table_map.specs.Stored.{Places}
use Rattle.std.specs.List.{AllByRecursion}
use Rattle.drda_words.specs.Bytes.{AreBytes}
use Rattle.drda_words.specs.Place.{part}
use Rattle.drda_disk.proofs.Moments.{Stays-refl, Stays-trans}
use Rattle.table_map.specs.Keyed.{copied}
use Rattle.row_pages.specs.Page.{IsPage}
use Rattle.store_check.specs.Judging.{JudgesBytes, go_on, last_key}
use Rattle.store_check.specs.Whole.{places_in}
use Rattle.store_check.proofs.Judged.{AreNoted, all_judged, all_noted, none_noted, one_noted, stopped, without_memory}
use Rattle.store_check.proofs.Behind.{are_rows, bytes_more, last_more, rising_more}
use Rattle.store_check.proofs.Standing.{a_page}
use Rattle.store_check.proofs.table.check_table.Goals as goal

pub returns-in_err-key-clause-told : goal.returns-in_err-key-clause-told
returns-in_err-key-clause-told g c honest =
    let inv = c.loop-page.invariant in
    let file = (g.D.Disk.life c.args.pager.now).seen in
    let key_of = g.K.RowKeys.key_of c.args.keys.now in
    let here = c.args.at + 8192 * c.loop-page.page in
    let e = c.in_err-key.field-0.0 in
    let is : c.from_residual.result ≡ Err e = search rules in
    let told = subst (λ (f : List ℕ). JudgesBytes c.args.schema.now key_of here (part f here 8192) c.loop-page.last (Err e) c.check_page.new.last) inv.stays.same (c.in_err-key.ensures.judged honest) in
    stopped c.args.schema.now key_of file c.args.at c.loop-page.page c.args.count (map (λ (k : Vec ℕ). k.items) c.loop-page.first_keys.items) c.loop-page.last c.check_page.new.last e c.loop-page-test.true (inv.noted honest).judged told (places_in c.from_residual.result) (ap places_in is)

pub returns-in_err-push_bytes-clause-told : goal.returns-in_err-push_bytes-clause-told
returns-in_err-push_bytes-clause-told g c honest =
    let is : c.from_residual-in_err-push_bytes.result ≡ Err c.in_err-push_bytes.field-0.0 = search rules in
    without_memory c.args.schema.now (g.K.RowKeys.key_of c.args.keys.now) (g.D.Disk.life c.args.pager.now).seen c.args.at c.args.count c.in_err-push_bytes.field-0.0 (places_in c.from_residual-in_err-push_bytes.result) (ap places_in is) c.in_err-push_bytes.ensures.fault

pub loop-page-init : goal.loop-page-init
loop-page-init g c = record {
  stays = Stays-refl (g.D.Disk.life c.args.pager.now);
  faults = refl;
  many = search rules;
  rising = ap (λ (rows : List (List ℕ)). go_on c.args.schema.now (g.K.RowKeys.key_of c.args.keys.now) None rows) c.none-rows.ensures;
  bytes = subst (λ (rows : List (List ℕ)). AllByRecursion AreBytes rows) (sym c.none-rows.ensures) tt;
  last = ap (λ (rows : List (List ℕ)). last_key (g.K.RowKeys.key_of c.args.keys.now) None rows) (sym c.none-rows.ensures);
  noted = λ honest. none_noted c.args.schema.now (g.K.RowKeys.key_of c.args.keys.now) (g.D.Disk.life c.args.pager.now).seen c.args.at c.new-first_keys.result.items c.none-rows.result.listed.value c.new-first_keys.ensures.items c.none-rows.ensures;
}

pub loop-page-preserved : goal.loop-page-preserved
loop-page-preserved g c =
    let inv = c.loop-page.invariant in
    let file = (g.D.Disk.life c.args.pager.now).seen in
    let key_of = g.K.RowKeys.key_of c.args.keys.now in
    let i = c.loop-page.page in
    let here = c.args.at + 8192 * i in
    let key = c.in_ok-key.key in
    let keys_are = ap (λ (l : List (Vec ℕ)). map (λ (k : Vec ℕ). k.items) l) c.in_ok-push_bytes.ensures.items ∙ map-append (λ (k : Vec ℕ). k.items) c.loop-page.first_keys.items (key ∷ []) in
    record {
      stays = Stays-trans _ _ _ inv.stays c.check_page.ensures.stays;
      faults = c.in_ok-key.ensures.cause ∙ inv.faults;
      many = ap length c.in_ok-push_bytes.ensures.items ∙ omega (arith, length-append c.loop-page.first_keys.items (key ∷ []), inv.many);
      rising = rising_more c.args.schema.now key_of (copied c.loop-page.last) (copied c.check_page.new.last) c.loop-page.rows.listed.value c.check_page.new.noted.listed.value inv.rising inv.last c.in_ok-key.ensures.goes;
      bytes = bytes_more c.args.schema.now key_of (copied c.loop-page.last) (copied c.check_page.new.last) c.loop-page.rows.listed.value c.check_page.new.noted.listed.value inv.rising inv.last c.in_ok-key.ensures.goes inv.bytes;
      last = last_more c.args.schema.now key_of (copied c.loop-page.last) (copied c.check_page.new.last) c.loop-page.rows.listed.value c.check_page.new.noted.listed.value inv.rising inv.last c.in_ok-key.ensures.goes;
      noted = λ honest.
          subst (λ (keys : List (List ℕ)). AreNoted c.args.schema.now key_of file c.args.at (i + 1) keys (copied c.check_page.new.last) c.check_page.new.noted.listed.value) (sym keys_are)
          (one_noted c.args.schema.now key_of file c.args.at i (map (λ (k : Vec ℕ). k.items) c.loop-page.first_keys.items) key c.loop-page.last c.check_page.new.last c.loop-page.rows.listed.value c.check_page.new.noted.listed.value (inv.noted honest)
          (subst (λ (f : List ℕ). JudgesBytes c.args.schema.now key_of here (part f here 8192) c.loop-page.last (Ok key) c.check_page.new.last) inv.stays.same (c.in_ok-key.ensures.judged honest))
          (λ rows is. c.in_ok-key.ensures.noted rows honest (subst (λ (f : List ℕ). IsPage (a_page rows) (part f here 8192)) (sym inv.stays.same) is)));
    }

pub returns-clause-told : goal.returns-clause-told
returns-clause-told g c honest =
    let inv = c.loop-page.invariant in
    all_judged c.args.schema.now (g.K.RowKeys.key_of c.args.keys.now) (g.D.Disk.life c.args.pager.now).seen c.args.at c.loop-page.page c.args.count (map (λ (k : Vec ℕ). k.items) c.loop-page.first_keys.items) _ c.new-pages.result (omega (arith, c.loop-page-test.false, c.loop-page.auto.page-end)) (inv.noted honest).judged c.new-pages.ensures

pub returns-clause-rows : goal.returns-clause-rows
returns-clause-rows g c pages honest whole =
    all_noted c.args.schema.now (g.K.RowKeys.key_of c.args.keys.now) (g.D.Disk.life c.args.pager.now).seen c.args.at c.one_page.ensures c.loop-page.page c.args.count (map (λ (k : Vec ℕ). k.items) c.loop-page.first_keys.items) _ c.loop-page.rows.listed.value pages
    (omega (arith, c.loop-page-test.false, c.loop-page.auto.page-end)) (c.loop-page.invariant.noted honest) whole

pub returns-clause-count : goal.returns-clause-count
returns-clause-count g c = ap (λ (p : Places). length p.keys) c.new-pages.ensures ∙ simp length-map (omega (arith, c.loop-page.invariant.many, c.loop-page-test.false, c.loop-page.auto.page-end))

pub returns-clause-good : goal.returns-clause-good
returns-clause-good g c = are_rows c.args.schema.now (g.K.RowKeys.key_of c.args.keys.now) c.loop-page.rows.listed.value c.loop-page.invariant.rising c.loop-page.invariant.bytes
