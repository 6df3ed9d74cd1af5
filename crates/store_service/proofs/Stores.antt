-- From an opening and a run over its core to the whole.
use Rattle.std.proofs.Common.{◌≡◌, ◌⊎◌, inl, inr, ℕ, Bool, true, List, [], ◌++◌, arith, Option, Some, IfSome, Result, Ok, Err, refl, sym, ◌∙◌, ap, subst}
use Rattle.drda_disk.specs.Disk.{LeavesOnly, Life, Now, Stays}
use Rattle.drda_disk.proofs.Moments.{stays_and, weaker}
use Rattle.session_commands.specs.Settings.{Settings}
use Rattle.unit_records.specs.MadeRecords.{MadeRecords, groups_of, with_begun, with_done}
use Rattle.unit_records.specs.Records.{UnitRecord}
use Rattle.recovery.specs.Durable.{Durable, replayed_from}
use Rattle.core_model.specs.Laws.{IsSane}
use Rattle.core_model.specs.Step.{CoreState}
use Rattle.serializability.specs.Answered.{AnsweredCall, Begins, CallsLead, SerialRun, committed}
use Rattle.recovery.specs.Openings.{ImagesAreSound, ImagesBegin}
use Rattle.recovery.specs.Part.{durable_part, opened}
use Rattle.recovery.specs.Opens.{OpensTo}
use Rattle.recovery.specs.StepLaws.{OpeningsAreKept}
use Rattle.recovery.specs.Journaled.{FaultsAfter, OnDisk, OpensAfterAll, OpensAfterSome, all_in}
use Rattle.durable_core.specs.Opening.{IsOpenedTo, SettlesFirst, StoodThere, SyncsFirst}
use Rattle.durable_core.specs.Reads.{CountsError, IsExcused}
use Rattle.durable_core.specs.declared.errors.Refused.{Refused}
use Rattle.durable_core.specs.declared.errors.OpenError.{OpenError}
use Rattle.durable_core.specs.declared.errors.OpenError.TheVariants.{Damaged, DeviceFailed, NoMemory, NotAStore}
use Rattle.drda_node.specs.Asking.{AskedCore, asked_after, asked_of}
use Rattle.drda_node.specs.Calls.{IsHistory}
use Rattle.drda_node.specs.Serial.{HistoriesLead, MachinesAreSerial, SaneOpeningsBegin}
use Rattle.drda_node.specs.Machine.{Machine, at_start}
use Rattle.drda_node.specs.Serving.{Runs}
use Rattle.drda_node.specs.Stations.{RunsAlong, first_station}
use Rattle.drda_node.specs.declared.serving.RunEnd.{RunEnd}
use Rattle.store_service.specs.Running.{GivesBack, GoesFrom, HasRun, IsRefusal, IsRefused, IsStore, RunsCore, RunsFrom, RunsOver, core_over}

-- the laws of serial order
pub record SerialLaws : Type 0 where
  pub begin : ImagesBegin
  pub noted : (old new : AskedCore) (calls : List AnsweredCall) → IsHistory old calls new → new.calls ≡ old.calls ++ calls
  pub lead : HistoriesLead
  pub openings : SaneOpeningsBegin
  pub serial : MachinesAreSerial

module _ {D : Type 0} (modelled : Bool) (life : D → Life) (syncs : D → Bool → D → Type 0) (sound : ImagesAreSound) (kept : OpeningsAreKept) (laws : SerialLaws) where
  module _ (name : List ℕ) (d : Durable) (user password : List ℕ) (disk : D) (store : IsStore modelled name d (life disk)) where
    -- what is durable of a core that was just opened
    part_is : durable_part (opened d) ≡ d
    part_is = (kept d (sound name d (life disk).seen store.opens)).part

    module _ (core : OnDisk D) (is : IsOpenedTo name d core) (stood : StoodThere (life disk).seen core) (first : SettlesFirst life syncs disk core.disk) (stays : Stays (life disk) (life core.disk)) (quiet : (life core.disk).faults ≡ (life disk).faults) where
      over : asked_of modelled core ≡ core_over d core.layout core.room
      over = λ i. record { is_told = store.modelled_is i; state = is.state i; layout = core.layout; room = core.room; has_failed = is.going i; made = is.made i; calls = [] }

      durable : durable_part core.state ≡ d
      durable = ap durable_part is.state ∙ part_is

      same_some : (groups : List (List UnitRecord)) (image : List ℕ) → OpensAfterSome core.name (durable_part core.state) groups image → OpensAfterSome name d groups image
      same_some groups image o = subst (λ (n : List ℕ). OpensAfterSome n d groups image) is.named (subst (λ (e : Durable). OpensAfterSome core.name e groups image) durable o)

      same_all : (groups begun : List (List UnitRecord)) (image : List ℕ) → OpensAfterAll core.name (durable_part core.state) groups begun image → OpensAfterAll name d groups begun image
      same_all groups begun image o = subst (λ (n : List ℕ). OpensAfterAll n d groups begun image) is.named (subst (λ (e : Durable). OpensAfterAll core.name e groups begun image) durable o)

      module _ (input before now : Option (List ℕ)) (given : D) (end : RunEnd)
          (goes : GoesFrom modelled life core (at_start (record { user = user; password = password; rdb = core.name }) (asked_of modelled core)) input before given end now) where
        settings : Settings
        settings = record { user = user; password = password; rdb = name }

        starts : at_start (record { user = user; password = password; rdb = core.name }) (asked_of modelled core) ≡ at_start (record { user = user; password = password; rdb = name }) (core_over d core.layout core.room)
        starts = λ i. at_start (record { user = user; password = password; rdb = is.named i }) (over i)

        runs_from : (o : Option (List ℕ)) → IfSome o (λ bytes. Runs (at_start (record { user = user; password = password; rdb = core.name }) (asked_of modelled core)) bytes before end now goes.last)
            → IfSome o (λ bytes. Runs (at_start (record { user = user; password = password; rdb = name }) (core_over d core.layout core.room)) bytes before end now goes.last)
        runs_from o runs = subst (λ (m : Machine). IfSome o (λ bytes. Runs m bytes before end now goes.last)) starts runs

        failed_is : goes.last.core.has_failed ≡ goes.new.is_failed
        failed_is = ap (λ (c : AskedCore). c.has_failed) goes.core_is

        stations_from : (o : Option (List ℕ))
            → IfSome o (λ bytes. RunsAlong modelled life (first_station (at_start (record { user = user; password = password; rdb = core.name }) (asked_of modelled core)) core) bytes before now goes.new)
            → IfSome o (λ bytes. RunsAlong true life (first_station (at_start (record { user = user; password = password; rdb = name }) (core_over d core.layout core.room)) core) bytes before now goes.new)
        stations_from o runs =
            subst (λ (m : Machine). IfSome o (λ bytes. RunsAlong true life (first_station m core) bytes before now goes.new)) starts
            (subst (λ (b : Bool). IfSome o (λ bytes. RunsAlong b life (first_station (at_start (record { user = user; password = password; rdb = core.name }) (asked_of modelled core)) core) bytes before now goes.new)) store.modelled_is runs)

        faults_are : FaultsAfter true goes.last.core.has_failed (life disk).faults (life given).faults
        faults_are =
            subst (λ (x : D). FaultsAfter true goes.last.core.has_failed (life disk).faults (life x).faults) (sym goes.disk_is)
            (subst (λ (f : Bool). FaultsAfter true f (life disk).faults (life goes.new.disk).faults) (sym failed_is)
            (subst (λ (n : ℕ). FaultsAfter true goes.new.is_failed n (life goes.new.disk).faults) quiet
            (subst (λ (b : Bool). FaultsAfter b goes.new.is_failed (life core.disk).faults (life goes.new.disk).faults) store.modelled_is (goes.journaled.faults is.going))))

        calls_are : goes.last.core.calls ≡ goes.history.0
        calls_are = laws.noted (asked_of modelled core) goes.last.core goes.history.0 goes.history.1

        calls_lead : CallsLead (opened d) goes.last.core.calls goes.last.core.state
        calls_lead =
            subst (λ (s : CoreState). CallsLead s goes.last.core.calls goes.last.core.state) is.state
            (subst (λ (ls : List AnsweredCall). CallsLead core.state ls goes.last.core.state) (sym calls_are)
            (laws.lead (asked_of modelled core) goes.last.core goes.history.0 store.modelled_is goes.history.1))

        is_serial : IsSane (opened d).base → SerialRun d.store (committed (opened d) goes.last.core.calls) goes.last.core.state.base.store
        is_serial sane =
            let begins : Begins core.state = subst (λ (s : CoreState). Begins s) (sym is.state) (laws.openings d (laws.begin name d (life disk).seen store.opens) sane) in
            subst (λ (s : CoreState). SerialRun s.base.store (committed s goes.last.core.calls) goes.last.core.state.base.store) is.state
            (subst (λ (ls : List AnsweredCall). SerialRun core.state.base.store (committed core.state ls) goes.last.core.state.base.store) (sym calls_are)
            (laws.serial (asked_of modelled core) goes.last.core goes.history.0 store.modelled_is begins goes.history.1))

        -- what is read behind the first sync opens to the state
        at_first : (groups : List (List UnitRecord)) (image : List ℕ) → Now (life first.synced) image → OpensAfterSome name d groups image
        at_first groups image now = record {
          count = 0;
          state = d;
          leads = refl;
          opens = subst (λ (i : List ℕ). OpensTo name d i) (sym (first.only image now ∙ first.unwritten.same)) store.opens;
        }

        -- since that sync
        since : (groups begun : List (List UnitRecord)) → LeavesOnly (life core.disk) (life goes.new.disk) (OpensAfterSome core.name (durable_part core.state) (groups ++ begun)) → LeavesOnly (life first.synced) (life given) (OpensAfterSome name d (groups ++ begun))
        since groups begun all =
            stays_and (life first.synced) (life core.disk) (life given) (OpensAfterSome name d (groups ++ begun)) first.reads_on
            (subst (λ (x : D). LeavesOnly (life core.disk) (life x) (OpensAfterSome name d (groups ++ begun))) (sym goes.disk_is) (weaker (life core.disk) (life goes.new.disk) _ _ all (same_some (groups ++ begun))))
            (at_first (groups ++ begun))

        -- and before
        ever : (groups begun : List (List UnitRecord)) → LeavesOnly (life first.synced) (life given) (OpensAfterSome name d (groups ++ begun)) → (image : List ℕ) → (life given).left_since (life disk).moment image → Now (life disk) image ⊎ OpensAfterSome name d (groups ++ begun) image
        ever groups begun all image left = by_time (all.before (life disk).moment image first.unwritten.later left)
          where
            by_time : (life first.synced).left_since (life disk).moment image ⊎ OpensAfterSome name d (groups ++ begun) image → Now (life disk) image ⊎ OpensAfterSome name d (groups ++ begun) image
            by_time (inl was) = inl (first.unwritten.nothing_new (life disk).moment image (omega arith) was)
            by_time (inr o) = inr o

        pub has_run : HasRun life syncs name d (record { user = user; password = password; rdb = name }) disk given input before end now
        has_run =
            let (groups, begun, made) = goes.journaled.records store.modelled_is is.going in
            let all = since groups begun made.moments in
            record {
              core = core;
              is_opened = is;
              stood = stood;
              settled_first = first;
              last = goes.last;
              runs = runs_from input goes.runs;
              left_core = goes.new;
              left_disk = goes.disk_is;
              over = goes.core_is ∙ ap (λ (b : Bool). asked_after b goes.last.core.calls goes.new) store.modelled_is;
              stations = stations_from input goes.stations;
              calls_lead = calls_lead;
              serial = is_serial;
              groups = groups;
              begun = begun;
              good = made.good;
              made = ap (λ (c : AskedCore). c.made) goes.core_is ∙ made.made ∙ ap (λ (m : MadeRecords). with_begun (with_done m (groups_of groups)) (groups_of begun)) is.made;
              lead = ap (λ (e : Durable). replayed_from e (all_in groups)) (sym durable) ∙ made.state ∙ ap (λ (c : AskedCore). Some (durable_part c.state)) (sym goes.core_is);
              settled = λ going. made.settled (sym failed_is ∙ going);
              faults = faults_are;
              moments = all;
              any_moment = ever groups begun all;
              left = λ image now. same_all groups begun image (made.left image (subst (λ (x : D). Now (life x) image) goes.disk_is now));
            }

      gives_back : (before now : Option (List ℕ)) (given : D) (error : OpenError) → GivesBack life core given error before now → IsRefused life syncs name error disk given before now
      gives_back before now given error g = record {
        refusal = subst (λ (n : List ℕ). IsRefusal n error) is.named g.refusal;
        first = inl (subst (λ (x : D). SettlesFirst life syncs disk x) (sym g.disk_is) first);
        stays = subst (λ (x : D). Stays (life disk) (life x)) (sym g.disk_is) stays;
        cause = subst (λ (x : D). CountsError error (life disk).faults (life x).faults) (sym g.disk_is)
            (subst (λ (n : ℕ). CountsError error n (life core.disk).faults) quiet g.cause);
        silent = g.silent;
      }

      pub runs_over : (input before now : Option (List ℕ)) (given : D) (r : Result RunEnd OpenError) → RunsOver life modelled user password core input before given r now → RunsFrom life syncs name d user password disk input before given r now
      runs_over input before now given (Ok end) goes = has_run input before now given end goes
      runs_over input before now given (Err error) g = gives_back before now given error g

-- ---- a store that was not opened

pub refusal_of : (name : List ℕ) (error : OpenError) → IsExcused error → IsRefusal name error
refusal_of name NotAStore is = absurd is
refusal_of name (Damaged at) is = absurd is
refusal_of name DeviceFailed is = tt
refusal_of name NoMemory is = tt

pub refused_so : {D : Type 0} (life : D → Life) (syncs : D → Bool → D → Type 0) (name : List ℕ) (disk : D) (refused : Refused D) → IsExcused refused.error → SyncsFirst life syncs disk (Err refused) → Stays (life disk) (life refused.disk)
    → CountsError refused.error (life disk).faults (life refused.disk).faults → (w : Option (List ℕ)) → IsRefused life syncs name refused.error disk refused.disk w w
refused_so life syncs name disk refused is first stays cause w = record { refusal = refusal_of name refused.error is; first = first; stays = stays; cause = cause; silent = refl }

-- ---- a node that ran

pub ran : {D : Type 0} (modelled : Bool) (life : D → Life) (user password : List ℕ) (core over : OnDisk D) (first : Machine) (settings : Settings) → over ≡ core → first ≡ at_start settings (asked_of modelled core)
    → settings ≡ record { user = user; password = password; rdb = core.name } → (input before now : Option (List ℕ)) (given : D × Result RunEnd OpenError)
    → (end : RunEnd) × (given.1 ≡ Ok end) × GoesFrom modelled life over first input before given.0 end now → RunsCore modelled life user password core input before given now
ran {D} modelled life user password core over first settings same begins with_these input before now given (end, is, goes) =
    let from_core : GoesFrom modelled life core first input before given.0 end now = subst (λ (c : OnDisk D). GoesFrom modelled life c first input before given.0 end now) same goes in
    let start : first ≡ at_start (record { user = user; password = password; rdb = core.name }) (asked_of modelled core) = begins ∙ ap (λ (s : Settings). at_start s (asked_of modelled core)) with_these in
    let whole : GoesFrom modelled life core (at_start (record { user = user; password = password; rdb = core.name }) (asked_of modelled core)) input before given.0 end now =
    subst (λ (m : Machine). GoesFrom modelled life core m input before given.0 end now) start from_core in
    subst (λ (r : Result RunEnd OpenError). RunsOver life modelled user password core input before given.0 r now) (sym is) whole
