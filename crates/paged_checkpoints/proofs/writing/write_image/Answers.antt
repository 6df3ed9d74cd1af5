-- From the image that is written to the store.
use Rattle.std.proofs.Common.{rules, ◌≡◌, ◌+◌, ◌*◌, ◌-◌, ℕ, ap, subst, arith}
use Rattle.std.specs.List.{AllByRecursion}
use Rattle.half_store.specs.Opened.{store_of}
use Rattle.half_store.specs.Writing.{from_of, next_of, pages_of}
use Rattle.unit_journal.specs.Record.{entries_of}
use Rattle.checkpoint_writer.proofs.Adding.{same_from}
use Rattle.checkpoint_writer.specs.declared.ending.Switched.{Switched}
use Rattle.store_check.proofs.Ending.{image_anew, image_leaves, pages_leave, refused_so, refused_still, still_old}
use Rattle.paged_checkpoints.specs.Apart.{LiesFrom}
use Rattle.paged_checkpoints.specs.Laying.{all_shown}
use Rattle.paged_checkpoints.proofs.Framed.{anew_same, lie_among}
use Rattle.paged_checkpoints.proofs.writing.write_image.Goals as goal

pub returns-in_err-written-clause-any_moment : goal.returns-in_err-written-clause-any_moment
returns-in_err-written-clause-any_moment g c readable base is =
    pages_leave g.D.Disk.is_modelled (g.D.Disk.life c.args.disk.now) (g.D.Disk.life c.write_pages.new.disk) base (store_of c.args.active.now) c.args.image c.write_pages.new.image (all_shown c.args.tables) (entries_of c.args.records.now) c.args.held is c.write_pages.ensures.adds

pub returns-in_err-written-clause-refused : goal.returns-in_err-written-clause-refused
returns-in_err-written-clause-refused g c =
    refused_so _ c.from_residual.result
    (λ base is. still_old g.D.Disk.is_modelled (g.D.Disk.life c.write_pages.new.disk) base (store_of c.args.active.now) c.write_pages.new.image (c.write_pages.ensures.adds.writing base (store_of c.args.active.now) is))

pub returns-in-Ok-clause-any_moment : goal.returns-in-Ok-clause-any_moment
returns-in-Ok-clause-any_moment g c readable base is =
    let first = c.in_ok-written.written.first_catalogue in
    image_leaves c.checkpoints_are_known.ensures.framed g.D.Disk.is_modelled (g.D.Disk.life c.args.disk.now) (g.D.Disk.life c.write_pages.new.disk) base (store_of c.args.active.now) c.args.image c.write_pages.new.image
    first (c.pages.result - first) (all_shown c.args.tables) (entries_of c.args.records.now) c.args.held is c.write_pages.ensures.adds
    (g.met.D.Disk.read_is_image c.write_pages.new.disk is.modelled_disk) (ap (λ n. n - first) c.pages.ensures) (c.in_ok-written.ensures.written readable).checkpoint
    (g.D.Disk.life c.finish_image.new.disk) (c.finish_image.ensures.any_moment base (c.write_pages.ensures.adds.writing base (store_of c.args.active.now) is))

pub returns-in-Ok-clause-done : goal.returns-in-Ok-clause-done
returns-in-Ok-clause-done g c readable base is =
    let first = c.in_ok-written.written.first_catalogue in
    let w = c.write_pages.new.image in
    let all = c.in_ok-written.ensures.written readable in
    let active = c.in-Ok.ensures.active in
    let there : next_of w ≡ from_of w + 8192 + 8192 * pages_of w = omega arith in
    let done = c.in-Ok.ensures.done base (c.write_pages.ensures.adds.writing base (store_of c.args.active.now) is) in
    record {
      anew = image_anew c.checkpoints_are_known.ensures.framed g.D.Disk.is_modelled (g.D.Disk.life c.args.disk.now) (g.D.Disk.life c.write_pages.new.disk) base (store_of c.args.active.now) c.args.image w
          first (c.pages.result - first) (all_shown c.args.tables) (entries_of c.args.records.now) c.args.held is c.write_pages.ensures.adds
          (g.met.D.Disk.read_is_image c.write_pages.new.disk is.modelled_disk) (ap (λ n. n - first) c.pages.ensures) all.checkpoint
          (g.D.Disk.life c.finish_image.new.disk) c.in-Ok.switched done active.store active.behind active.held_back all.pages;
      stand = anew_same (g.D.Disk.life c.write_pages.new.disk).seen (g.D.Disk.life c.finish_image.new.disk).seen (from_of w + 8192) (8192 * pages_of w) done.is.pages c.in_ok-written.written.pages.items c.args.tables
          (subst (λ (n : ℕ). AllByRecursion (LiesFrom (from_of w + 8192) n) c.in_ok-written.written.pages.items) there c.in_ok-written.ensures.listed.lie) all.stand;
    }

pub returns-in-Ok-clause-laid : goal.returns-in-Ok-clause-laid
returns-in-Ok-clause-laid g c =
    let first = c.in_ok-written.written.first_catalogue in
    let listed = c.in_ok-written.ensures.listed in
    let active = c.in-Ok.ensures.active in
    let adds = c.write_pages.ensures.adds in
    let from = same_from c.args.image c.write_pages.new.image adds.half adds.half_bytes in
    record {
      count = listed.count;
      among = lie_among c.write_pages.new.image (store_of c.args.active.now) first (c.pages.result - first) c.in-Ok.switched.active c.in_ok-written.written.pages.items active.behind active.store listed.lie;
      pages = search rules;
      front = search rules;
      held_back = active.held_back;
      ends = omega (arith, active.ends, from, adds.half_bytes);
    }

pub returns-in-Err-clause-any_moment : goal.returns-in-Err-clause-any_moment
returns-in-Err-clause-any_moment g c readable base is =
    let first = c.in_ok-written.written.first_catalogue in
    image_leaves c.checkpoints_are_known.ensures.framed g.D.Disk.is_modelled (g.D.Disk.life c.args.disk.now) (g.D.Disk.life c.write_pages.new.disk) base (store_of c.args.active.now) c.args.image c.write_pages.new.image
    first (c.pages.result - first) (all_shown c.args.tables) (entries_of c.args.records.now) c.args.held is c.write_pages.ensures.adds
    (g.met.D.Disk.read_is_image c.write_pages.new.disk is.modelled_disk) (ap (λ n. n - first) c.pages.ensures) (c.in_ok-written.ensures.written readable).checkpoint
    (g.D.Disk.life c.finish_image.new.disk) (c.finish_image.ensures.any_moment base (c.write_pages.ensures.adds.writing base (store_of c.args.active.now) is))

pub returns-in-Err-clause-refused : goal.returns-in-Err-clause-refused
returns-in-Err-clause-refused g c =
    refused_still Switched _ _ c.in-Err.error c.finish_image.result c.in-Err.is
    (λ goes base is. still_old g.D.Disk.is_modelled (g.D.Disk.life c.finish_image.new.disk) base (store_of c.args.active.now) c.write_pages.new.image (goes base (c.write_pages.ensures.adds.writing base (store_of c.args.active.now) is)))
    c.finish_image.ensures.refused
