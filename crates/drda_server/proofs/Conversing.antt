-- Conversations over a network, side by side.
use Rattle.std.proofs.Common.{◌≡◌, ◌⊎◌, ◌∙◌, refl, sym, ap, subst, inl, inr, ℕ, Bool, List, Option, Result, Ok, Err}
use Rattle.std.specs.Prelude.{IfErr}
use Rattle.std.specs.Result.{result_and}
use Rattle.std.specs.Io.KnownBytes.{Appends}
use Rattle.drda_disk.specs.Disk.{Life}
use Rattle.session_commands.specs.Settings.{Settings}
use Rattle.command_line.specs.Job.{Login}
use Rattle.command_line.specs.declared.job.ServeOptions.{ServeOptions}
use Rattle.recovery.specs.Journaled.{OnDisk}
use Rattle.core_history.specs.Lasting.{KeptBooksLast}
use Rattle.store_files.proofs.Found.{found}
use Rattle.store_files.specs.Files.{FileCalls}
use Rattle.store_files.specs.Opening.{OpensStore}
use Rattle.store_files.specs.Stores.{IsOfDevice, RefusesName}
use Rattle.store_files.specs.declared.fault.Fault.{Fault}
use Rattle.store_files.specs.declared.fault.Fault.TheVariants.{NoMemory}
use Rattle.drda_server.specs.Listening.{HasListened, Listens, ServesStreams, port_line}
use Rattle.drda_server.specs.Network.{NetworkCalls}
use Rattle.drda_server.specs.Serving.{EndsSo, ServesCore, ServesFile, seen, settings_of, surroundings}

module _ {N L S W : Type 0} (calls : NetworkCalls N L S W) {D : Type 0} (modelled : Bool) (life : D → Life) (origin : OnDisk D → Type 0) (remaining : S → Option (List ℕ)) (contents : W → Option (List ℕ)) (options : ServeOptions) where
  module _ (settings : Settings) where
    -- the port was not said
    pub not_said : (listener : L) (before now : Option (List ℕ)) (fault : Fault) (r : Result (Unit {0}) Fault) → r ≡ Err fault → IsOfDevice fault → HasListened calls modelled life origin remaining contents settings options listener before r now
    not_said listener before now fault r is cause =
        subst (λ (z : Result (Unit {0}) Fault). HasListened calls modelled life origin remaining contents settings options listener before z now) (sym is) (record { said = tt; cause = cause; served = inl (fault, refl) })

    -- it was said, and streams were served
    pub said_then : (listener : L) (before now : Option (List ℕ)) (refused : Fault) (r : Result (Unit {0}) Fault) → (port : ℕ) × calls.has_port listener port × Appends before now (port_line port) → IfErr r IsOfDevice
        → (r ≡ Err refused) ⊎ ServesStreams calls modelled life origin remaining contents settings options listener → HasListened calls modelled life origin remaining contents settings options listener before r now
    said_then listener before now refused (Ok done) said cause (inl is) = absurd (cc is)
    said_then listener before now refused (Ok done) said cause (inr served) = record { said = said; cause = tt; served = inr served }
    said_then listener before now refused (Err fault) said cause (inl is) = record { said = tt; cause = cause; served = inl (fault, refl) }
    said_then listener before now refused (Err fault) said cause (inr served) = record { said = tt; cause = cause; served = inr served }

    -- serving ends otherwise than listening did: the device has failed
    pub ends_so : (port : ℕ) (net : N) (before now : Option (List ℕ)) (r : Result (Unit {0}) Fault) → Listens calls modelled life origin remaining contents settings options port net before (Ok tt) now → IfErr r IsOfDevice
        → Listens calls modelled life origin remaining contents settings options port net before r now
    ends_so port net before now (Ok done) listens cause = listens
    ends_so port net before now (Err fault) listens cause = record {
      address = listens.address;
      local = listens.local;
      mid = listens.mid;
      bound = elim listens.bound [
        | inl b ↦ absurd (cc b.1)
        | inr b ↦ inr (
          b.0,
          b.1,
          record {
            said = tt;
            cause = cause;
            served = elim b.2.served [
              | inl s ↦ absurd (cc s.1)
              | inr s ↦ inr s
            ];
          },
        )
      ];
    }

    -- the port of a core's conversations was listened on, and the book was found when they had ended
    pub core_served : (port : ℕ) (net net' : N) (before now : Option (List ℕ)) (listened ended r : Result (Unit {0}) Fault) → r ≡ result_and listened ended → Listens calls modelled life origin remaining contents settings options port net before listened now
        → IfErr ended IsOfDevice → EndsSo modelled life origin ended → ServesCore modelled life calls remaining contents origin settings options port net before r net' now
    core_served port net net' before now (Ok done) ended r is listens cause ends =
        subst (λ (z : Result (Unit {0}) Fault). ServesCore modelled life calls remaining contents origin settings options port net before z net' now) (sym is) (inr (ends_so port net before now ended listens cause, ends))
    core_served port net net' before now (Err fault) ended r is listens cause ends =
        subst (λ (z : Result (Unit {0}) Fault). ServesCore modelled life calls remaining contents origin settings options port net before z net' now) (sym is)
        (inr (listens, record { book = ends.book; is_of = ends.is_of; is_kept = ends.is_kept; going = tt }))

-- ---- over the store of a path

module _ {N L S W : Type 0} (calls : NetworkCalls N L S W) {D : Type 0} (modelled : Bool) (life : D → Life) (remaining : S → Option (List ℕ)) (contents : W → Option (List ℕ)) (options : ServeOptions) {F : Type 0} (files_calls : FileCalls F D)
    (path : List ℕ) (port : ℕ) (login : Login) (files files' : F) (core : OnDisk D) (opened : OpensStore modelled life files_calls files path (Ok core) files') where
  pub not_started : (net net' : N) (out out' : Option (List ℕ)) (fault : Fault) (r : Result (Unit {0}) Fault) → r ≡ Err fault → RefusesName core.name fault → net' ≡ net → out' ≡ out
      → ServesFile (surroundings files_calls modelled life calls remaining contents) path port login options (seen files net out) r (seen files' net' out')
  not_started net net' out out' fault r is refused same silent = let there = found modelled life files_calls files path core files' opened in inl (fault, is, inr (there.0, there.1, core, there.2, refused), same, silent)

  pub served : (settings : Settings) → settings ≡ settings_of login core.name → KeptBooksLast modelled life → (net net' : N) (out out' : Option (List ℕ)) (r : Result (Unit {0}) Fault)
      → ServesCore modelled life calls remaining contents (λ c. c ≡ core) settings options port net out r net' out' → ServesFile (surroundings files_calls modelled life calls remaining contents) path port login options (seen files net out) r (seen files' net' out')
  served settings its last net net' out out' r (inl none) = not_started net net' out out' NoMemory r none.0 tt none.1 none.2
  served settings its last net net' out out' r (inr (listens, ends)) =
      let there = found modelled life files_calls files path core files' opened in
      inr (
        there.0,
        there.1,
        record {
          core = core;
          over = there.2;
          listens = subst (λ (s : Settings). Listens calls modelled life (λ c. c ≡ core) remaining contents s options port net out r out') its listens;
          ends = ends;
          lasts = λ name d is opens. last ends.book is ends.is_kept (ap (λ (c : OnDisk D). c.is_failed) ends.is_of ∙ (there.2.finds name d is opens).going);
        },
      )
