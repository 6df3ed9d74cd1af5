-- What a fault of the framing is answered (DRDA V5 volume 3, SYNTAXRM).
use Rattle.std.specs.Prelude.{ℕ, List}
use Rattle.dss_frames.specs.declared.fault.FrameFault.{FrameFault}
use Rattle.dss_frames.specs.Fault.{synerrcd}
use Rattle.dss_frames.specs.Writing.{written}
use Rattle.sqlam_replies.specs.declared.message.ReplyMessage.TheVariants.{Syntax}
use Rattle.sqlam_replies.specs.Message.{message_of}
use Rattle.sqlam_replies.specs.Reply.{message}

-- it stands in no chain
abbrev pub fault_bytes : FrameFault → List ℕ
fault_bytes fault = written 0x02 fault.correlator (message (message_of (Syntax (synerrcd fault.code)))).text
