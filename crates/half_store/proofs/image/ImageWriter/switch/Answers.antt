use Rattle.std.proofs.Common.{◌≡◌, true, length, ◌∙◌, ap, arith}
use Rattle.drda_disk.proofs.Moments.{no_call}
use Rattle.half_store.specs.Header.{is_inside}
use Rattle.half_store.specs.Opened.{store_of}
use Rattle.half_store.specs.Writing.{half_bytes_of}
use Rattle.half_store.specs.Switching.{header_of}
use Rattle.half_store.proofs.Pages.{Fits, is_inside_true}
use Rattle.half_store.proofs.Switched.{before_switch, switch_moments, switch_active}
use Rattle.half_store.proofs.image.ImageWriter.switch.Goals as goal

pub returns-in_err-name-clause-any_moment : goal.returns-in_err-name-clause-any_moment
returns-in_err-name-clause-any_moment g c base w =
    no_call (g.D.Disk.life c.args.disk.now) _ (before_switch g.D.Disk.is_modelled (g.D.Disk.life c.args.disk.now) base (store_of c.args.active.now) _ c.args.self w (omega (arith, c.args.self.fits)))

pub returns-in_err-page-clause-any_moment : goal.returns-in_err-page-clause-any_moment
returns-in_err-page-clause-any_moment g c base w =
    no_call (g.D.Disk.life c.args.disk.now) _ (before_switch g.D.Disk.is_modelled (g.D.Disk.life c.args.disk.now) base (store_of c.args.active.now) _ c.args.self w (omega (arith, c.args.self.fits)))

pub returns-in_err-open_gate-clause-any_moment : goal.returns-in_err-open_gate-clause-any_moment
returns-in_err-open_gate-clause-any_moment g c base w =
    let self = c.args.self in
    let old = g.D.Disk.life c.args.disk.now in
    let head = header_of self c.args.first_catalogue c.args.catalogue_pages in
    let fits : Fits head = record { generation = omega arith; pages = omega arith; first_catalogue = omega arith; catalogue_pages = omega arith } in
    let inside : is_inside (half_bytes_of self) head ≡ true = is_inside_true (half_bytes_of self) head (omega (arith, self.fits)) (omega (arith, c.requires.catalogue)) in
    switch_moments g.D.Disk.is_modelled old base c.deref.result.now (store_of c.args.active.now) self c.args.first_catalogue c.args.catalogue_pages c.offset.result w c.offset.ensures
    (g.met.D.Disk.read_is_image c.args.disk.now w.modelled_disk) (omega (arith, self.fits)) c.requires.inside (c.deref.ensures.value ∙ c.in_ok-page.ensures.items) (ap length c.deref.ensures.value ∙ c.in_ok-page.ensures.len) fits inside (g.D.Disk.life c.open_gate.new.disk) c.open_gate.ensures.any_moment

pub returns-clause-any_moment : goal.returns-clause-any_moment
returns-clause-any_moment g c base w =
    let self = c.args.self in
    let old = g.D.Disk.life c.args.disk.now in
    let head = header_of self c.args.first_catalogue c.args.catalogue_pages in
    let fits : Fits head = record { generation = omega arith; pages = omega arith; first_catalogue = omega arith; catalogue_pages = omega arith } in
    let inside : is_inside (half_bytes_of self) head ≡ true = is_inside_true (half_bytes_of self) head (omega (arith, self.fits)) (omega (arith, c.requires.catalogue)) in
    switch_moments g.D.Disk.is_modelled old base c.deref.result.now (store_of c.args.active.now) self c.args.first_catalogue c.args.catalogue_pages c.offset.result w c.offset.ensures
    (g.met.D.Disk.read_is_image c.args.disk.now w.modelled_disk) (omega (arith, self.fits)) c.requires.inside (c.deref.ensures.value ∙ c.in_ok-page.ensures.items) (ap length c.deref.ensures.value ∙ c.in_ok-page.ensures.len) fits inside (g.D.Disk.life c.open_gate.new.disk) c.open_gate.ensures.any_moment

pub returns-clause-active : goal.returns-clause-active
returns-clause-active g c base w =
    let self = c.args.self in
    let old = g.D.Disk.life c.args.disk.now in
    let head = header_of self c.args.first_catalogue c.args.catalogue_pages in
    let fits : Fits head = record { generation = omega arith; pages = omega arith; first_catalogue = omega arith; catalogue_pages = omega arith } in
    let inside : is_inside (half_bytes_of self) head ≡ true = is_inside_true (half_bytes_of self) head (omega (arith, self.fits)) (omega (arith, c.requires.catalogue)) in
    switch_active g.D.Disk.is_modelled old base c.deref.result.now (store_of c.args.active.now) self c.args.first_catalogue c.args.catalogue_pages c.offset.result w c.offset.ensures
    (g.met.D.Disk.read_is_image c.args.disk.now w.modelled_disk) (omega (arith, self.fits)) c.requires.inside (c.deref.ensures.value ∙ c.in_ok-page.ensures.items) (ap length c.deref.ensures.value ∙ c.in_ok-page.ensures.len) fits inside (g.D.Disk.life c.open_gate.new.disk).seen (c.in_ok-open_gate.ensures.written w.modelled_disk)
