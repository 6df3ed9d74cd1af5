use Rattle.std.proofs.Common.{◌≡◌, ◌≤◌, ◌-◌, ◌+◌, ◌*◌, suc, List, [], ℕ, length, map, get_or, sym, ◌∙◌, ap, subst, arith}
use Rattle.std.proofs.lemmas.List.{length-map}
use Rattle.std.specs.Prelude.{IfOk, Option}
use Rattle.std.specs.Global.{Vec}
use Rattle.drda_words.specs.Place.{part}
use Rattle.row_pages.specs.Page.{IsPage}
use Rattle.row_pages.specs.declared.page.PageKind.TheVariants as kind
use Rattle.table_map.specs.Damage.{IsNoPage}
use Rattle.table_map.specs.Keyed.{copied}
use Rattle.table_map.specs.Places.{IsPlace}
use Rattle.table_map.specs.Stored.{Places}
use Rattle.table_map.proofs.Damaged.{page_told}
use Rattle.table_map.proofs.Found.{none_before, found_in, in_order, lies_at}
use Rattle.table_map.proofs.pages.TablePages.row.Goals as goal

pub returns-then-place-eq0-clause-found : goal.returns-then-place-eq0-clause-found
returns-then-place-eq0-clause-found g c pages honest is =
    let keys_is = ap (λ (l : List (Vec ℕ)). map (λ k. k.items) l) c.deref.ensures.value ∙ ap (λ (p : Places). p.keys) c.self.view_is in
    let place = subst (λ (l : List (List ℕ)). IsPlace c.args.key.now l c.place_of-place.result) keys_is c.place_of-place.ensures in
    sym (none_before (g.K.RowKeys.key_of c.args.keys.now) c.args.key.now c.args.self.now pages (g.D.Disk.life c.args.pager.now).seen is c.place_of-place.result place c.if-place-eq0.true)

pub overflow_mul-at : goal.overflow_mul-at
overflow_mul-at g c =
    let within : c.place_of-place.result ≤ length c.deref.result.now = simp length-map at c.place_of-place.ensures.within in
    omega (arith, within, ap length c.deref.ensures.value, c.self.invariant)

pub returns-clause-found : goal.returns-clause-found
returns-clause-found g c pages honest is =
    let key_of = g.K.RowKeys.key_of c.args.keys.now in
    let q = c.args.key.now in
    let file = (g.D.Disk.life c.args.pager.now).seen in
    let n = c.place_of-place.result in
    let keys_is = ap (λ (l : List (Vec ℕ)). map (λ k. k.items) l) c.deref.ensures.value ∙ ap (λ (p : Places). p.keys) c.self.view_is in
    let place = subst (λ (l : List (List ℕ)). IsPlace q l n) keys_is c.place_of-place.ensures in
    let next : n ≡ suc (n - 1) = omega (arith, c.if-place-eq0.false) in
    let there = subst (λ k. IsPage (record { kind = kind.Rows; rows = get_or pages (n - 1) [] }) (part file (k + 8192 * (n - 1)) 8192)) (sym (ap (λ (p : Places). p.at) c.self.view_is))
    (lies_at key_of q c.args.self.now pages file is n place (n - 1) next) in
    subst (λ (o : Option (List ℕ)). IfOk c.row_in_page.result (λ found. copied found.row ≡ o)) (sym (found_in key_of q c.args.self.now pages file is n place (n - 1) next)) (c.row_in_page.ensures.found (get_or pages (n - 1) []) honest there (in_order key_of q c.args.self.now pages file is n place (n - 1) next))

pub returns-clause-damaged : goal.returns-clause-damaged
returns-clause-damaged g c honest =
    let q = c.args.key.now in
    let file = (g.D.Disk.life c.args.pager.now).seen in
    let n = c.place_of-place.result in
    let keys_is = ap (λ (l : List (Vec ℕ)). map (λ k. k.items) l) c.deref.ensures.value ∙ ap (λ (p : Places). p.keys) c.self.view_is in
    let place = subst (λ (l : List (List ℕ)). IsPlace q l n) keys_is c.place_of-place.ensures in
    let next : n ≡ suc (n - 1) = omega (arith, c.if-place-eq0.false) in
    page_told _ _ c.row_in_page.result
    (λ none. record {
      number = n - 1;
      place = subst (λ k. IsPlace q c.args.self.now.keys k) next place;
      none = subst (λ k. IsNoPage (part file (k + 8192 * (n - 1)) 8192)) (ap (λ (p : Places). p.at) c.self.view_is) none;
    })
    (c.row_in_page.ensures.damaged honest)
