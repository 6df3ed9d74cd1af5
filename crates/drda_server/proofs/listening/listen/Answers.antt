use Rattle.std.proofs.Common.{◌∙◌, ap, inr, rules}
use Rattle.std.specs.Net.Addr.{ipv4_octets}
use Rattle.std.specs.declared.net.socket_addr.SocketAddr.TheVariants.{V4}
use Rattle.store_files.specs.declared.fault.Fault.TheVariants.{NoMemory}
use Rattle.drda_server.proofs.Conversing.{not_said, said_then}
use Rattle.drda_server.proofs.listening.listen.Goals as goal

pub returns-in_err-say_port-in-Ok : goal.returns-in_err-say_port-in-Ok
returns-in_err-say_port-in-Ok g c = record {
  address = V4 c.new-2.result;
  local = (ap ipv4_octets c.new-2.ensures.ip ∙ c.new.ensures, c.new-2.ensures.port);
  mid = c.bind.new.self;
  bound = inr (
    c.in-Ok.listener,
    c.in-Ok.ensures,
    not_said g.N.Network.calls g.D.Disk.is_modelled g.D.Disk.life g.B.Origin.is g.N.Stream.Read.remaining g.N.Writer.Write.contents c.args.options c.args.settings.now c.in-Ok.listener (g.W.Write.contents c.args.out.now) (g.W.Write.contents c.say_port.new.out) c.in_err-say_port-in-Ok.field-0.0 c.from_residual.result (search rules) c.in_err-say_port-in-Ok.ensures.cause,
  );
}

pub returns-in_ok-say_port-in-Ok : goal.returns-in_ok-say_port-in-Ok
returns-in_ok-say_port-in-Ok g c = record {
  address = V4 c.new-2.result;
  local = (ap ipv4_octets c.new-2.ensures.ip ∙ c.new.ensures, c.new-2.ensures.port);
  mid = c.bind.new.self;
  bound = inr (
    c.in-Ok.listener,
    c.in-Ok.ensures,
    said_then g.N.Network.calls g.D.Disk.is_modelled g.D.Disk.life g.B.Origin.is g.N.Stream.Read.remaining g.N.Writer.Write.contents c.args.options c.args.settings.now c.in-Ok.listener (g.W.Write.contents c.args.out.now) (g.W.Write.contents c.say_port.new.out) NoMemory c.serve_all.result c.in_ok-say_port-in-Ok.ensures.said c.serve_all.ensures.cause c.serve_all.ensures.served,
  );
}
