use Rattle.std.proofs.Common.{◌≡◌, ◌+◌, ℕ, List, length, sym, ◌∙◌, ap, arith, inl, inr, refl}
use Rattle.unit_journal.specs.declared.record.Record.{Record}
use Rattle.std.specs.Int.{w32, to_be_bytes}
use Rattle.drda_words.specs.Place.{part}
use Rattle.unit_journal.proofs.Reading.{head_in, head_at, gate_at, len_is, is_record}
use Rattle.unit_journal.proofs.open.read_record.Goals as goal

pub returns-then-len-room-clause-next : goal.returns-then-len-room-clause-next
returns-then-len-room-clause-next g c honest =
    let image = (g.D.Disk.life c.args.disk.now).seen in
    let at = c.args.at in
    let whole = c.read_at.new.into in
    let size : length whole ≡ 6 = c.read_at.auto.into in
    let is : whole ≡ part image at 6 = c.in_ok-read_at.ensures.read honest in
    let gate = gate_at image whole at size is (omega (arith, c.requires.before, c.requires.inside)) in
    let len = len_is image (head_in image whole at size is) at refl (head_at image whole at size is) _ c.number_of-len.ensures.number in
    (refl, gate ∙ c.if-head.false, inr (inl (omega (arith, len, c.if-len-room.true, c.if-room-lt-HEAD_BYTES.false))))

pub returns-clause-next : goal.returns-clause-next
returns-clause-next g c honest =
    let image = (g.D.Disk.life c.args.disk.now).seen in
    let at = c.args.at in
    let whole = c.read_at.new.into in
    let size : length whole ≡ 6 = c.read_at.auto.into in
    let is : whole ≡ part image at 6 = c.in_ok-read_at.ensures.read honest in
    let gate = gate_at image whole at size is (omega (arith, c.requires.before, c.requires.inside)) in
    let r : Record = record { at = c.args.at; kind = c.in-Some.kind; body = c.in_ok-body.body } in
    let body : c.in_ok-body.body.items ≡ part image (at + 6) c.number_of-len.result = c.in_ok-body.ensures.read honest ∙ ap (λ (l : List ℕ). part l (at + 6) c.number_of-len.result) c.read_at.ensures.stays.same in
    let len : length c.in_ok-body.body.items ≡ c.number_of-len.result = c.in_ok-body.ensures.len in
    is_record image (head_in image whole at size is) at refl (head_at image whole at size is) (omega (arith, c.requires.before, c.requires.inside)) (gate ∙ c.if-head.false) r c.in-Some.ensures.known
    (ap (λ n. to_be_bytes w32 n) len ∙ c.number_of-len.ensures.bytes) (body ∙ ap (λ n. part image (at + 6) n) (sym len)) (omega (arith, len)) refl
