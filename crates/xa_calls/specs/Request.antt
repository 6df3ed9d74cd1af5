-- The XA call that a SYNCCTL spells (DRDA V5 volume 3, SYNCCTL).
use Rattle.std.specs.Prelude.{ℕ, List, length, Option, Some, None, option_map, option_and_then, if◌then◌else◌, ◌==◌}
use Rattle.std.specs.Int.{w32, from_be_bytes}
use Rattle.xa_calls.specs.declared.sync_type.SyncType.{SyncType}
use Rattle.xa_calls.specs.declared.sync_type.SyncType.TheVariants as sync
use Rattle.xa_calls.specs.declared.flags.Flags.{Flags}
use Rattle.xa_calls.specs.declared.flags.Flags.TheVariants as flag
use Rattle.xa_calls.specs.declared.request.Verb.{Verb}
use Rattle.xa_calls.specs.declared.request.Verb.TheVariants as verb
use Rattle.xa_calls.specs.declared.request.Ending.TheVariants.{Kept, Failed}
use Rattle.xa_calls.specs.declared.request.Request.{Request}
use Rattle.xa_calls.specs.declared.request.Request.TheVariants as request
use Rattle.xa_calls.specs.Xid.{xid_in}
use Rattle.xa_calls.specs.Numbers.{sync_type_of, flags_of}

-- the flags that each call takes
abbrev pub verb_of : SyncType → Flags → Option Verb
verb_of sync.Start flag.NoFlags = Some verb.Start
verb_of sync.Start flag.Join = Some verb.Join
verb_of sync.Start flag.Resume = Some verb.Join
verb_of sync.End flag.Success = Some (verb.End Kept)
verb_of sync.End flag.Suspend = Some (verb.End Kept)
verb_of sync.End flag.Fail = Some (verb.End Failed)
verb_of sync.Prepare flag.NoFlags = Some verb.Prepare
verb_of sync.Commit flag.NoFlags = Some verb.Commit
verb_of sync.Commit flag.OnePhase = Some verb.CommitOnePhase
verb_of sync.RollBack flag.NoFlags = Some verb.RollBack
verb_of sync.Forget flag.NoFlags = Some verb.Forget
verb_of _ _ = None

-- the number of XAFLAGS, which are four bytes; absent, they are none
abbrev pub flags_in : Option (List ℕ) → Option ℕ
flags_in None = Some 0
flags_in (Some text) = if length text == 4 then Some (from_be_bytes w32 text) else None

-- what is asked of the XID that the data begin with
abbrev pub asked : Option Verb → List ℕ → Option Request
asked None xid = None
asked (Some v) xid = Some (request.Branch v xid)

-- the call, with XID data that are there; a recover reads them, and takes any flags
abbrev pub branch_request : SyncType → ℕ → List ℕ → Option Request
branch_request sync.Recover flags text = option_map (λ _. request.Recover) (xid_in text)
branch_request s flags text = option_and_then (λ xid. asked (option_and_then (verb_of s) (flags_of flags)) xid) (xid_in text)

-- XID data may be absent from a recover alone
abbrev pub spelled : SyncType → ℕ → Option (List ℕ) → Option Request
spelled s flags (Some text) = branch_request s flags text
spelled sync.Recover flags None = Some request.Recover
spelled s flags None = None

-- the call of a SYNCTYPE's number, XAFLAGS and XID data, the last two perhaps absent
abbrev pub request_in : ℕ → Option (List ℕ) → Option (List ℕ) → Option Request
request_in number flags text =
    option_and_then (λ s. option_and_then (λ f. spelled s f text) (flags_in flags)) (sync_type_of number)
