-- The numbers of SYNCTYPE (this server's profile), and of XAFLAGS and XARETVAL (C193 chapter 4).
use Rattle.std.specs.Prelude.{ℕ, ℤ, pos, negsuc, Option, Some, None, if◌then◌else◌, ◌==◌}
use Rattle.xa_calls.specs.declared.sync_type.SyncType.{SyncType}
use Rattle.xa_calls.specs.declared.sync_type.SyncType.TheVariants as sync
use Rattle.xa_calls.specs.declared.flags.Flags.{Flags}
use Rattle.xa_calls.specs.declared.flags.Flags.TheVariants as flag
use Rattle.xa_calls.specs.declared.code.XaCode.{XaCode}
use Rattle.xa_calls.specs.declared.code.XaCode.TheVariants as code

abbrev pub sync_number : SyncType → ℕ
sync_number sync.Prepare = 0x01
sync_number sync.Commit = 0x04
sync_number sync.Forget = 0x06
sync_number sync.RollBack = 0x07
sync_number sync.Start = 0x09
sync_number sync.End = 0x0B
sync_number sync.Recover = 0x0C

abbrev pub sync_type_of : ℕ → Option SyncType
sync_type_of n =
    if n == 0x01 then Some sync.Prepare
    else (if n == 0x04 then Some sync.Commit
    else (if n == 0x06 then Some sync.Forget
    else (if n == 0x07 then Some sync.RollBack
    else (if n == 0x09 then Some sync.Start
    else (if n == 0x0B then Some sync.End
    else (if n == 0x0C then Some sync.Recover
    else None))))))

-- TMNOFLAGS, TMJOIN, TMSUSPEND, TMSUCCESS, TMRESUME, TMFAIL, TMONEPHASE
abbrev pub flags_number : Flags → ℕ
flags_number flag.NoFlags = 0
flags_number flag.Join = 0x0020_0000
flags_number flag.Suspend = 0x0200_0000
flags_number flag.Success = 0x0400_0000
flags_number flag.Resume = 0x0800_0000
flags_number flag.Fail = 0x2000_0000
flags_number flag.OnePhase = 0x4000_0000

abbrev pub flags_of : ℕ → Option Flags
flags_of n =
    if n == 0 then Some flag.NoFlags
    else (if n == 0x0020_0000 then Some flag.Join
    else (if n == 0x0200_0000 then Some flag.Suspend
    else (if n == 0x0400_0000 then Some flag.Success
    else (if n == 0x0800_0000 then Some flag.Resume
    else (if n == 0x2000_0000 then Some flag.Fail
    else (if n == 0x4000_0000 then Some flag.OnePhase
    else None))))))

-- XA_OK, XA_RDONLY, XA_HEURRB, XA_HEURCOM, XA_RBROLLBACK, XAER_RMERR, XAER_NOTA, XAER_INVAL, XAER_PROTO, XAER_DUPID, XAER_OUTSIDE
abbrev pub code_number : XaCode → ℤ
code_number code.Done = pos 0
code_number code.ReadOnly = pos 3
code_number code.HeuristicallyRolledBack = pos 6
code_number code.HeuristicallyCommitted = pos 7
code_number code.RolledBack = pos 100
code_number code.Limit = negsuc 2
code_number code.Unknown = negsuc 3
code_number code.Invalid = negsuc 4
code_number code.Protocol = negsuc 5
code_number code.Duplicate = negsuc 7
code_number code.Outside = negsuc 8
