use Rattle.std.proofs.Common.{◌≡◌, suc, ◌+◌, ◌∙◌, ap, length, arith}
use Rattle.indexmap.specs.IndexMap.{set_value_at}
use Rattle.indexmap.proofs.CallerLemmas.{index_map_len-with_value_at}
use Rattle.sections.specs.Kept.{Section}
use Rattle.sections.specs.Units.{section_ended}
use Rattle.sections.proofs.Entries.{changed_all, changed_next, changed_to}
use Rattle.sections.proofs.named.end_unit.Goals as goal

pub index_mut-section-requires : goal.index_mut-section-requires
index_mut-section-requires c = let len = c.loop-i.invariant.len in omega (arith, len, c.loop-i-test.true, c.len-i-end.ensures.len)

pub loop-i-preserved : goal.loop-i-preserved
loop-i-preserved c =
    let change = section_ended c.args.keeps_held in
    let es = c.loop-i.sections.entries in
    let next : suc c.loop-i.i ≡ c.loop-i.i + 1 = omega arith in
    record {
      list =
          ap (λ (section : Section). set_value_at es c.loop-i.i section) c.end_unit.ensures
          ∙ changed_next change c.loop-i.i es c.args.sections.now.entries c.index_mut-section.result.now c.loop-i.invariant.list c.index_mut-section.ensures.value
          ∙ ap (λ n. changed_to change n c.args.sections.now.entries) next;
      len = index_map_len-with_value_at c.loop-i.sections c.loop-i.i c.end_unit.new.self ∙ c.loop-i.invariant.len;
      room = c.loop-i.invariant.room;
    }

pub returns-clause-list : goal.returns-clause-list
returns-clause-list c =
    let change = section_ended c.args.keeps_held in
    let all : c.loop-i.i ≡ length c.args.sections.now.entries = omega (arith, c.loop-i-test.false, c.loop-i.auto.i-end, c.len-i-end.ensures.len) in
    c.loop-i.invariant.list ∙ ap (λ n. changed_to change n c.args.sections.now.entries) all ∙ changed_all change c.args.sections.now.entries
