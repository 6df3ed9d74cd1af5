-- The page is parsed from what was read, and that fills all bytes.
use Rattle.std.proofs.Common.{IsTrue}
use Rattle.drda_words.specs.Place.{part}
use Rattle.row_pages.proofs.KeptPages.{parsed_is, parsed_tells, read_over}
use Rattle.row_pages.proofs.memory.PageMemory.read.Goals as goal

pub returns-in-Ok-clause-page : goal.returns-in-Ok-clause-page
returns-in-Ok-clause-page g c =
    let bytes = c.self.inside.bytes in
    let seen = (g.D.Disk.life c.args.disk.now).seen in
    parsed_is (IsTrue g.D.Disk.is_modelled) _ (part seen c.args.at 8192) c.parse.result
    (λ honest. read_over bytes.len c.args.at bytes.items c.deref_mut.result.now c.read_at.new.into seen bytes.ok.0 c.self.invariant c.deref_mut.ensures.value c.read_at.auto.into (c.in-Ok.ensures.read honest))
    c.parse.ensures

pub returns-in-Ok-clause-damaged : goal.returns-in-Ok-clause-damaged
returns-in-Ok-clause-damaged g c =
    let bytes = c.self.inside.bytes in
    let seen = (g.D.Disk.life c.args.disk.now).seen in
    parsed_tells (IsTrue g.D.Disk.is_modelled) _ (part seen c.args.at 8192) c.parse.result
    (λ honest. read_over bytes.len c.args.at bytes.items c.deref_mut.result.now c.read_at.new.into seen bytes.ok.0 c.self.invariant c.deref_mut.ensures.value c.read_at.auto.into (c.in-Ok.ensures.read honest))
    c.parse.ensures
