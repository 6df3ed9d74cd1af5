use Rattle.std.proofs.Common.{refl}
use Rattle.table_map.proofs.Lent.{lent_falls, lent_first}
use Rattle.table_map.proofs.cursor.RowCursor.next.Goals as goal

pub returns : goal.returns
returns g c =
    let advances = c.in_ok-place.ensures in (
      (
        refl,
        λ last. tt,
        record {
          gives = λ left honest held. lent_first (g.K.RowKeys.key_of c.args.keys.now) (g.D.Disk.life c.args.disk.now).seen left c.in_ok-place.place c.lend.result c.advance.new.self c.lend.ensures (advances.finds left honest held);
          end = advances.end;
          forward = advances.forward;
          fewer = lent_falls c.in_ok-place.place c.lend.result c.args.self.now c.advance.new.self c.lend.ensures advances.fewer;
        },
      ),
      record { given = tt; damaged = λ honest. tt; stays = advances.stays; cause = advances.cause },
    )
