use Rattle.std.proofs.Common.{◌≡◌, ◌<◌, ap, sym, ◌∙◌, length, get_or, arith, below_more, refl}
use Rattle.std.specs.Prelude.{Some}
use Rattle.std.proofs.lemmas.List.{map_more, map_push, get_or_default}
use Rattle.ebcdic_500.specs.CodePage.{byte_for}
use Rattle.ebcdic_500.proofs.text.encode_chars.Goals as goal

pub loop-i-preserved : goal.loop-i-preserved
loop-i-preserved c =
    let lt : c.loop-i.i < length c.args.characters.now = omega arith in
    let at : byte_for (get_or c.args.characters.now c.loop-i.i 0) ≡ Some c.in-Some.byte =
    let here : get_or c.args.characters.now c.loop-i.i 0 ≡ c.index-characters-i.result = get_or_default c.args.characters.now c.loop-i.i 0 c.index-characters-i.result lt ∙ sym c.index-characters-i.is in
    ap byte_for here ∙ sym c.in-Some.ensures in
    record {
      same = map_more byte_for c.args.characters.now c.loop-i.i 0 lt ∙ rw (c.loop-i.invariant.same, at, c.in_ok-push-in-Some.ensures.items) (sym (map_push _ c.loop-i.bytes.items c.in-Some.byte));
      before = below_more _ _ c.loop-i.invariant.before (rw at refl);
    }
