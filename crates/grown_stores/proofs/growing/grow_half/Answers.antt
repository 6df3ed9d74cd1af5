use Rattle.std.proofs.Common.{◌≡◌, IsTrue, rules, refl, sym, ap, ◌∙◌, true, arith, List, ℕ}
use Rattle.half_store.specs.Fresh.{head_bytes, is_store_of}
use Rattle.grown_stores.proofs.Finished.{all_ok, is_grown, is_ready, moments, name_of, short_head, unmarked_yet, untouched}
use Rattle.grown_stores.proofs.growing.grow_half.Goals as goal

pub returns-then-not-fits-clause-moments : goal.returns-then-not-fits-clause-moments
returns-then-not-fits-clause-moments g c one other bare = untouched (g.D.Disk.life c.args.old.now).seen (g.E.Disk.life c.args.new.now) bare

pub returns-in_err-head-clause-moments : goal.returns-in_err-head-clause-moments
returns-in_err-head-clause-moments g c one other bare = untouched (g.D.Disk.life c.args.old.now).seen (g.E.Disk.life c.args.new.now) bare

pub move_half-requires-clause-room : goal.move_half-requires-clause-room
move_half-requires-clause-room g c =
    let fit : IsTrue c.fits.result = search rules in
    let told : IsTrue c.is_store.result = search rules in
    let name_is : c.deref.result.now ≡ name_of c.args.active.now = search rules in
    let again_is : c.deref-2.result.now ≡ name_of c.args.active.now = search rules in
    let named : is_store_of c.size-size.result c.deref.result.now ≡ true = sym c.is_store.ensures ∙ told in
    let head_is : c.deref-3.result.now ≡ head_bytes c.size-size.result c.deref.result.now =
    c.deref-3.ensures.value ∙ c.in_ok-head.ensures ∙ ap (λ (n : List ℕ). head_bytes c.size-size.result n) (again_is ∙ sym name_is) in
    record {
      count_fits = omega (arith, c.half_bytes-count.ensures.len, c.half_bytes-room.ensures.len, (c.fits.ensures fit).2);
      second_inside = omega (arith, c.half_bytes-room.ensures.inside, c.half_bytes-room.ensures.large, c.size-size.ensures);
      head_fits = short_head c.size-size.result c.deref.result.now c.deref-3.result.now named head_is;
    }

pub returns-in_err-move_half-clause-moments : goal.returns-in_err-move_half-clause-moments
returns-in_err-move_half-clause-moments g c one other bare = unmarked_yet (g.D.Disk.life c.args.old.now).seen _ _ (c.move_half.ensures.moments bare)

pub returns-clause-grown : goal.returns-clause-grown
returns-clause-grown g c =
    let old = (g.D.Disk.life c.args.old.now).seen in
    let mid = (g.E.Disk.life c.move_half.new.new).seen in
    let a = c.args.active.now in
    let fit : IsTrue c.fits.result = search rules in
    let told : IsTrue c.is_store.result = search rules in
    let name_is : c.deref.result.now ≡ name_of a = search rules in
    let again_is : c.deref-2.result.now ≡ name_of a = search rules in
    all_ok c.finish.result _ _ _ c.finish.ensures.marked c.finish.ensures.durable
    (λ marked only one other. (
      only,
      is_grown old mid a
          (is_ready old mid c.deref-3.result.now c.deref.result.now a c.size-from.result c.size-size.result c.half_bytes-count.result c.half_bytes-room.result _ c.size-from.ensures c.size-size.ensures c.move_half.ensures.size c.half_bytes-count.ensures.len
          c.half_bytes-room.ensures.len (c.fits.ensures fit).2 (sym c.is_store.ensures ∙ told) name_is c.half_bytes-room.ensures.inside c.half_bytes-count.ensures.large
          (c.deref-3.ensures.value ∙ c.in_ok-head.ensures ∙ ap (λ (n : List ℕ). head_bytes c.size-size.result n) (again_is ∙ sym name_is))
          g.D.Disk.is_modelled g.E.Disk.is_modelled one other (c.requires.active one) c.requires.region c.in_ok-move_half.ensures.moved)
          (g.E.Disk.life c.finish.new.new).seen (marked other),
    ))

pub returns-clause-moments : goal.returns-clause-moments
returns-clause-moments g c one other bare =
    let old = (g.D.Disk.life c.args.old.now).seen in
    let mid = (g.E.Disk.life c.move_half.new.new).seen in
    let a = c.args.active.now in
    let fit : IsTrue c.fits.result = search rules in
    let told : IsTrue c.is_store.result = search rules in
    let name_is : c.deref.result.now ≡ name_of a = search rules in
    let again_is : c.deref-2.result.now ≡ name_of a = search rules in
    moments old mid a
    (is_ready old mid c.deref-3.result.now c.deref.result.now a c.size-from.result c.size-size.result c.half_bytes-count.result c.half_bytes-room.result _ c.size-from.ensures c.size-size.ensures c.move_half.ensures.size c.half_bytes-count.ensures.len
    c.half_bytes-room.ensures.len (c.fits.ensures fit).2 (sym c.is_store.ensures ∙ told) name_is c.half_bytes-room.ensures.inside c.half_bytes-count.ensures.large
    (c.deref-3.ensures.value ∙ c.in_ok-head.ensures ∙ ap (λ (n : List ℕ). head_bytes c.size-size.result n) (again_is ∙ sym name_is))
    g.D.Disk.is_modelled g.E.Disk.is_modelled one other (c.requires.active one) c.requires.region c.in_ok-move_half.ensures.moved)
    (g.E.Disk.life c.args.new.now) (g.E.Disk.life c.move_half.new.new) (g.E.Disk.life c.finish.new.new) refl (c.move_half.ensures.moments bare) c.finish.ensures.moments
