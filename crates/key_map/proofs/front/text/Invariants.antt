-- What is found of the rest is found of the whole.
use Rattle.std.proofs.Common.{drop}
use Rattle.key_map.specs.SortForm.{text_form}
use Rattle.key_map.specs.declared.front.Front.{Front}
use Rattle.key_map.specs.Fronts.{Compares}
use Rattle.key_map.proofs.front.text.Given as goal

abbrev pub invariant-loop-next : goal.invariant-loop-next
invariant-loop-next l = (o : Front) → Compares l.rest (text_form (drop l.next-index l.text)) o → Compares l.fn.form (text_form l.text) o
