use Rattle.std.proofs.Common.{◌≡◌, ℕ, List, refl, true}
use Rattle.std.specs.Prelude.{option_and_then}
use Rattle.xa_calls.specs.declared.sync_type.SyncType.{SyncType}
use Rattle.xa_calls.specs.declared.sync_type.SyncType.TheVariants as sync
use Rattle.xa_calls.specs.Xid.{xid_in}
use Rattle.xa_calls.specs.Numbers.{flags_of}
use Rattle.xa_calls.specs.Request.{asked, verb_of, branch_request}
use Rattle.xa_calls.proofs.request.Request.of_branch.Goals as goal

-- what is asked of a branch by any call but a recover
asks : (s : SyncType) → (s ≡ sync.Recover → ⊥) → (flags : ℕ) (text : List ℕ) → branch_request s flags text ≡ option_and_then (λ xid. asked (option_and_then (verb_of s) (flags_of flags)) xid) (xid_in text)
asks sync.Prepare h flags text = refl
asks sync.Commit h flags text = refl
asks sync.Forget h flags text = refl
asks sync.RollBack h flags text = refl
asks sync.Start h flags text = refl
asks sync.End h flags text = refl
asks sync.Recover h flags text = absurd (h refl)

pub returns-in-Some-of : goal.returns-in-Some-of
returns-in-Some-of c =
    let tested = c.eq.ensures in
    let other : c.args.sync_type ≡ sync.Recover → ⊥ = λ same. let t : c.eq.result ≡ true = rw same at tested in let f = c.if-eq.false in absurd cc in
    rw (asks c.args.sync_type other c.args.flags c.args.text.now, ← c.read.ensures.value, c.in-Ok.is, ← c.from_number.ensures.value, c.in-Some.is, ← c.of.ensures, c.in-Some-of.is) refl
