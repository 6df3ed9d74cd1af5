use Rattle.std.proofs.Common.{refl, rules}
use Rattle.command_line.specs.Job.{plain_login}
use Rattle.drda_server.proofs.Conversing.{not_started, served}
use Rattle.drda_server.proofs.listening.serve_file.Goals as goal

pub returns-in_err-settings : goal.returns-in_err-settings
returns-in_err-settings g c =
    not_started g.N.Network.calls g.F.Disk.Disk.is_modelled g.F.Disk.Disk.life g.N.Stream.Read.remaining g.N.Writer.Write.contents c.args.options g.F.StoreFiles.calls c.args.path.now c.args.port (plain_login c.args.login) c.args.files.now c.open_file.new.files c.in_ok-core.core c.in_ok-core.ensures c.args.net.now c.args.net.now
    (g.W.Write.contents c.args.out.now) (g.W.Write.contents c.args.out.now) c.in_err-settings.field-0.0 c.from_residual-in_err-settings.result (search rules) c.in_err-settings.ensures.refused refl refl

pub returns : goal.returns
returns g c =
    served g.N.Network.calls g.F.Disk.Disk.is_modelled g.F.Disk.Disk.life g.N.Stream.Read.remaining g.N.Writer.Write.contents c.args.options g.F.StoreFiles.calls c.args.path.now c.args.port (plain_login c.args.login) c.args.files.now c.open_file.new.files c.in_ok-core.core c.in_ok-core.ensures c.in_ok-settings.settings c.in_ok-settings.ensures.of
    c.kept_books_last.ensures c.args.net.now c.serve_core.new.net (g.W.Write.contents c.args.out.now) (g.W.Write.contents c.serve_core.new.out) c.serve_core.result c.serve_core.ensures
