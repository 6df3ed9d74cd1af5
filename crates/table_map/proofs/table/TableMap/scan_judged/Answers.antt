use Rattle.std.proofs.Common.{rules, arith, ℕ, List, [], ◌+◌, ◌*◌, ◌<◌, ◌≤◌, length, get_or, sym, ap, ◌∙◌, subst, add-one, Option, map}
use Rattle.key_map.specs.Merging.{InOrder}
use Rattle.key_map.specs.Overlay.{change_of, changes_of}
use Rattle.std.specs.List.{slice_get}
use Rattle.row_values.proofs.ValueLaws.{first_true, second_true}
use Rattle.table_map.specs.Keyed.{seen}
use Rattle.table_map.proofs.Joined.{IsJoined, all_joined, none_joined, page_joined}
use Rattle.drda_words.specs.Place.{part}
use Rattle.drda_disk.proofs.Moments.{Stays-trans}
use Rattle.row_pages.specs.Page.{IsPage}
use Rattle.row_pages.specs.declared.page.PageKind.TheVariants as kind
use Rattle.table_map.specs.Damage.{HasNoRows}
use Rattle.table_map.specs.Table.{Table}
use Rattle.table_map.proofs.Damaged.{handed_on}
use Rattle.table_map.proofs.Found.{page_there}
use Rattle.table_map.proofs.Opened.{many_first}
use Rattle.table_map.proofs.Passed.{all_passed, page_passed}
use Rattle.table_map.proofs.table.TableMap.scan_judged.Goals as goal

pub loop-page-preserved : goal.loop-page-preserved
loop-page-preserved g c =
    let inv = c.loop-page.invariant in
    let key_of = g.K.RowKeys.key_of c.args.keys.now in
    let places = c.args.self.now.places in
    let file = (g.D.Disk.life c.args.pager.now).seen in
    let i = c.loop-page.page in
    let at_is = c.at-at.ensures.at ∙ ap (λ (t : Table). t.places.at) c.self.view_is in
    record {
      stays = Stays-trans _ _ _ inv.stays c.scan_page.ensures.stays;
      faults = c.in_ok-good.ensures.cause ∙ inv.faults;
      rows = λ pages honest is.
          let held = inv.rows pages honest is in
          let low : i < length pages = omega (arith, c.loop-page-test.true, c.count-page-end.ensures, ap (λ (t : Table). length t.places.keys) c.self.view_is, ap length is.first, many_first key_of pages) in
          let there = subst (λ n. IsPage (record { kind = kind.Rows; rows = get_or pages i [] }) (part (g.D.Disk.life c.loop-page.pager).seen (n + 8192 * i) 8192)) (sym at_is)
          (subst (λ (f : List ℕ). IsPage (record { kind = kind.Rows; rows = get_or pages i [] }) (part f (places.at + 8192 * i) 8192)) (sym inv.stays.same) (page_there key_of [] file places.at pages i is.stand low)) in
          page_passed key_of pages i (i + 1) c.loop-page.changes c.scan_page.new.changes c.loop-page.rows c.scan_page.new.rows _ low (add-one i) held (c.in_ok-good.ensures.rows (get_or pages i []) honest there);
      judged = λ schema is rise good.
          let was = first_true c.loop-page.judged c.in_ok-good.good (sym c.both-judged.ensures ∙ good) in
          let now = second_true c.loop-page.judged c.in_ok-good.good (sym c.both-judged.ensures ∙ good) in
          let low = sym (ap (λ (t : Table). slice_get t.places.keys i) c.self.view_is) ∙ c.bounds.ensures.first in
          let end = c.bounds.ensures.end ∙ ap (λ (t : Table). slice_get t.places.keys (i + 1)) c.self.view_is in
          let so = subst (λ (e : Option (List ℕ)). IsJoined key_of schema e c.new-changes.result c.loop-page.changes c.args.rows.now c.loop-page.rows) low (inv.judged schema is rise was) in
          subst (λ (e : Option (List ℕ)). IsJoined key_of schema e c.new-changes.result c.scan_page.new.changes c.args.rows.now c.scan_page.new.rows) end
          (page_joined key_of schema rise c.bounds.result.first.now (seen c.bounds.result.end) c.new-changes.result c.loop-page.changes c.scan_page.new.changes c.args.rows.now c.loop-page.rows c.scan_page.new.rows so (c.in_ok-good.ensures.judged schema is now));
      from = inv.from;
    }

pub returns-clause-rows : goal.returns-clause-rows
returns-clause-rows g c pages honest is =
    let key_of = g.K.RowKeys.key_of c.args.keys.now in
    let held = c.loop-page.invariant.rows pages honest is in
    let past : length pages ≤ c.loop-page.page = omega (arith, c.loop-page-test.false, c.count-page-end.ensures, ap (λ (t : Table). length t.places.keys) c.self.view_is, ap length is.first, many_first key_of pages) in
    all_passed key_of pages c.loop-page.page c.loop-page.changes c.loop-page.rows c.push_rest.new.rows _ past held c.in_ok-push_rest.ensures.rows

pub returns-in_err-good-clause-damaged : goal.returns-in_err-good-clause-damaged
returns-in_err-good-clause-damaged g c honest =
    let inv = c.loop-page.invariant in
    let places = c.args.self.now.places in
    let i = c.loop-page.page in
    let at_is = c.at-at.ensures.at ∙ ap (λ (t : Table). t.places.at) c.self.view_is in
    handed_on _ _ c.in_err-good.field-0.0 c.scan_page.result c.from_residual.result (search rules) (search rules)
    (λ none. record {
      number = i;
      within = omega (arith, c.loop-page-test.true, c.count-page-end.ensures, ap (λ (t : Table). length t.places.keys) c.self.view_is);
      is = subst (λ n. HasNoRows (part (g.D.Disk.life c.args.pager.now).seen (n + 8192 * i) 8192)) at_is
          (subst (λ (f : List ℕ). HasNoRows (part f (c.at-at.result + 8192 * i) 8192)) inv.stays.same none);
    })
    (c.scan_page.ensures.damaged honest)

pub loop-page-init : goal.loop-page-init
loop-page-init g c = record {
  stays = search rules;
  faults = search rules;
  rows = search rules;
  judged = λ schema is rise good. none_joined (g.K.RowKeys.key_of c.args.keys.now) schema (slice_get c.args.self.now.places.keys 0) c.new-changes.result c.args.rows.now;
  from = ap (map change_of) c.new-changes.ensures ∙ c.entries.ensures.all ∙ ap (λ (t : Table). changes_of t.overlay) c.self.view_is;
}

pub returns-clause-judged : goal.returns-clause-judged
returns-clause-judged g c schema is rise good =
    let key_of = g.K.RowKeys.key_of c.args.keys.now in
    let inv = c.loop-page.invariant in
    let rising = subst (λ (t : Table). InOrder (changes_of t.overlay)) c.self.view_is c.entries.ensures.rising in
    all_joined key_of schema (slice_get c.args.self.now.places.keys c.loop-page.page) (changes_of c.args.self.now.overlay) c.new-changes.result c.loop-page.changes c.args.rows.now c.loop-page.rows c.push_rest.new.rows inv.from rising
    (inv.judged schema is rise good) c.in_ok-push_rest.ensures.rows
