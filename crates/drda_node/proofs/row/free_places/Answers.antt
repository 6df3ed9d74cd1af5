use Rattle.std.proofs.Common.{◌++◌, ◌∷◌, [], List, None, map, replicate, ap, sym, subst, ◌∙◌, rules}
use Rattle.std.specs.List.{All}
use Rattle.std.proofs.lemmas.List.Elements.{All-push}
use Rattle.drda_node.specs.declared.slot.Slot.{Slot}
use Rattle.drda_node.specs.Sharing.{ServesWith}
use Rattle.drda_node.specs.Register.{shown}
use Rattle.drda_node.proofs.Rows.{view_push, replicate_more}
use Rattle.drda_node.proofs.row.free_places.Goals as goal

pub loop-preserved : goal.loop-preserved
loop-preserved c =
    let xs = c.loop.places.items in
    let p = c.in_ok-new.field-0 in
    record {
      count = search rules;
      alike = subst (λ (zs : List Slot). All (ServesWith c.args.settings.now) zs) (sym c.in_ok-push.ensures.items) (All-push (ServesWith c.args.settings.now) xs p c.loop.invariant.alike c.in_ok-new.ensures.settings);
      free = ap (λ (zs : List Slot). map shown zs) c.in_ok-push.ensures.items ∙ view_push shown xs p ∙ ap (λ zs. zs ++ shown p ∷ []) c.loop.invariant.free
          ∙ ap (λ o. replicate c.loop.counter None ++ o ∷ []) c.in_ok-new.ensures.free ∙ replicate_more c.loop.counter None;
    }
