use Rattle.std.proofs.Common.{◌≡◌, ◌+◌, ◌-◌, ◌*◌, List, ℕ, length, ◌∙◌, sym, ap, arith}
use Rattle.drda_words.specs.Place.{part}
use Rattle.drda_disk.proofs.Moments.{no_call, torn_within}
use Rattle.drda_disk.proofs.Parts.{part-overlaid}
use Rattle.half_store.specs.Layout.{offset_of}
use Rattle.half_store.specs.Writing.{from_of, next_of}
use Rattle.half_store.proofs.Kept.{kept_now, writing_kept}
use Rattle.half_store.proofs.image.ImageWriter.page.Goals as goal

pub returns-then-need-self-clause-any_moment : goal.returns-then-need-self-clause-any_moment
returns-then-need-self-clause-any_moment g c base store w =
    no_call (g.D.Disk.life c.args.disk.now) _ (kept_now g.D.Disk.is_modelled (g.D.Disk.life c.args.disk.now) base store c.args.self.now w (omega (arith, c.fits-self)))

pub returns-in_err-write_at-clause-any_moment : goal.returns-in_err-write_at-clause-any_moment
returns-in_err-write_at-clause-any_moment g c base store w =
    let self = c.args.self.now in
    let at : c.offset.result ≡ offset_of self.half_bytes self.half = c.offset.ensures in
    let run = torn_within (c.offset.result + 8192 * (1 + self.pages)) (length c.args.bytes.now) (from_of self + 1) (self.half_bytes - 1) base (g.D.Disk.life c.args.disk.now) (g.D.Disk.life c.write_at.new.self) c.write_at.ensures.tears w.within
    (omega (arith, at)) (omega (arith, at, c.requires.page, c.if-need-self.false)) in
    writing_kept g.D.Disk.is_modelled (g.D.Disk.life c.args.disk.now) base store c.args.self.now w (omega (arith, c.fits-self)) (g.D.Disk.life c.write_at.new.self) run

pub returns-in_err-write_at-clause-writing : goal.returns-in_err-write_at-clause-writing
returns-in_err-write_at-clause-writing g c base store w =
    let self = c.args.self.now in
    let at : c.offset.result ≡ offset_of self.half_bytes self.half = c.offset.ensures in
    let run = torn_within (c.offset.result + 8192 * (1 + self.pages)) (length c.args.bytes.now) (from_of self + 1) (self.half_bytes - 1) base (g.D.Disk.life c.args.disk.now) (g.D.Disk.life c.write_at.new.self) c.write_at.ensures.tears w.within
    (omega (arith, at)) (omega (arith, at, c.requires.page, c.if-need-self.false)) in
    record { modelled_disk = w.modelled_disk; within = run.now; active = w.active; other = w.other; shut = w.shut; halves = w.halves; generation = w.generation }

pub returns-clause-any_moment : goal.returns-clause-any_moment
returns-clause-any_moment g c base store w =
    let self = c.args.self.now in
    let at : c.offset.result ≡ offset_of self.half_bytes self.half = c.offset.ensures in
    let run = torn_within (c.offset.result + 8192 * (1 + self.pages)) (length c.args.bytes.now) (from_of self + 1) (self.half_bytes - 1) base (g.D.Disk.life c.args.disk.now) (g.D.Disk.life c.write_at.new.self) c.write_at.ensures.tears w.within
    (omega (arith, at)) (omega (arith, at, c.requires.page, c.if-need-self.false)) in
    writing_kept g.D.Disk.is_modelled (g.D.Disk.life c.args.disk.now) base store c.args.self.now w (omega (arith, c.fits-self)) (g.D.Disk.life c.write_at.new.self) run

pub returns-clause-writing : goal.returns-clause-writing
returns-clause-writing g c base store w =
    let self = c.args.self.now in
    let at : c.offset.result ≡ offset_of self.half_bytes self.half = c.offset.ensures in
    let run = torn_within (c.offset.result + 8192 * (1 + self.pages)) (length c.args.bytes.now) (from_of self + 1) (self.half_bytes - 1) base (g.D.Disk.life c.args.disk.now) (g.D.Disk.life c.write_at.new.self) c.write_at.ensures.tears w.within
    (omega (arith, at)) (omega (arith, at, c.requires.page, c.if-need-self.false)) in
    record { modelled_disk = w.modelled_disk; within = run.now; active = w.active; other = w.other; shut = w.shut; halves = w.halves; generation = w.generation }

pub returns-clause-written : goal.returns-clause-written
returns-clause-written g c honest =
    let self = c.args.self.now in
    let new = (g.D.Disk.life c.write_at.new.self).seen in
    let at : c.offset.result + 8192 * (1 + self.pages) ≡ next_of self = ap (λ k. k + 8192 * (1 + self.pages)) c.offset.ensures in
    ap (λ k. part new k 8192) (sym at) ∙ ap (λ n. part new (c.offset.result + 8192 * (1 + self.pages)) n) (sym c.requires.page)
    ∙ ap (λ (l : List ℕ). part l (c.offset.result + 8192 * (1 + self.pages)) (length c.args.bytes.now)) (c.in_ok-write_at.ensures.written honest)
    ∙ part-overlaid (g.D.Disk.life c.args.disk.now).seen (c.offset.result + 8192 * (1 + self.pages)) c.args.bytes.now (omega (arith, c.offset.ensures, c.requires.inside, c.requires.page, c.if-need-self.false))
