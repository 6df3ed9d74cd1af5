-- The pages of a core's tables can be read behind each call, whatever became of who records and reads.
use Rattle.std.proofs.Common.{◌≡◌, inl, inr, ℕ, Bool, List, Option, Some, None, Result, Ok, Err, IfErr, OnErr, OnOk, sym, subst}
use Rattle.drda_disk.specs.Disk.{Life}
use Rattle.paged_tables.specs.TablesByName.{PagesStay, Tables}
use Rattle.unit_records.specs.Records.{UnitRecord}
use Rattle.unit_records.specs.Together.{FailsTogether}
use Rattle.unit_records.specs.declared.group_error.GroupError.{GroupError}
use Rattle.unit_records.specs.declared.group_error.GroupError.TheVariants as group
use Rattle.unit_records.specs.declared.record_error.RecordError.{RecordError}
use Rattle.core_calls.specs.Answer.{Answer}
use Rattle.core_calls.specs.Call.{Call}
use Rattle.core_model.specs.Step.{CoreState}
use Rattle.ahead_view.specs.declared.source.ReadError.{ReadError}
use Rattle.ahead_view.specs.declared.source.ReadError.TheVariants as read
use Rattle.ahead_view.specs.Source.{LeavesReader}
use Rattle.journal_recorder.specs.Ahead.{FailsAhead, LaysAhead}
use Rattle.journal_recorder.specs.Reading.{FailsToRead, HasPages, PagesAreKept, Reads}
use Rattle.journal_recorder.specs.Recording.{AreLeftOpen, Fails, Records, RecordsAll}
use Rattle.journal_recorder.specs.declared.recorder.DiskRecorder.{DiskRecorder}
use Rattle.rdb_core.specs.Looks as core
use Rattle.rdb_core.specs.Recorded.{IsRecorded, Refuses}
use Rattle.rdb_core.specs.Steps.{Steps, Takes}

module _ {D : Type 0} (modelled : Bool) (life : D → Life) (kept : PagesAreKept modelled life) (r : DiskRecorder D) (s t : Tables) (stays : PagesStay s t) (has : HasPages modelled life r s) where
  -- the tables have other rows, on the same pages
  over : (after : DiskRecorder D) → HasPages modelled life after s → HasPages modelled life after t
  over after there = kept.changed after s t stays there

  -- nothing was recorded or read
  pub same : (after : DiskRecorder D) → after ≡ r → HasPages modelled life after t
  same after is = over after (subst (λ (x : DiskRecorder D). HasPages modelled life x s) (sym is) has)

  -- ---- a record that is due, or none

  pub made : (o : Option UnitRecord) (after : DiskRecorder D) → IsRecorded (Records modelled life) o r after → HasPages modelled life after t
  made None after is = same after is
  made (Some said) after is = over after (kept.recorded r said after s is has)

  pub refused : (o : Option UnitRecord) (fault : RecordError) (after : DiskRecorder D) → Refuses (Fails modelled life) o fault r after → HasPages modelled life after t
  refused o fault after (inl out) = same after out.recorder
  refused o fault after (inr is) = over after (kept.failed r is.record_is fault after s is.failed has)

  -- of a call that makes one record
  pub either : {X : Type 0} (result : Result X RecordError) (o : Option UnitRecord) (after : DiskRecorder D) → OnOk result (IsRecorded (Records modelled life) o r after) → IfErr result (λ fault. Refuses (Fails modelled life) o fault r after)
      → HasPages modelled life after t
  either (Ok x) o after ok err = made o after ok
  either (Err fault) o after ok err = refused o fault after err

  -- ---- records that are made together

  refused_together : (records : List UnitRecord) (fault : GroupError) (after : DiskRecorder D) → FailsTogether (AreLeftOpen modelled life) records fault r after → HasPages modelled life after t
  refused_together records group.Refused after is = same after is
  refused_together records group.DeviceFailed after left = over after (kept.all_left_open r records after s left has)

  pub together : {X : Type 0} (result : Result X GroupError) (records : List UnitRecord) (after : DiskRecorder D) → OnOk result (RecordsAll modelled life r records after) → IfErr result (λ fault. FailsTogether (AreLeftOpen modelled life) records fault r after)
      → HasPages modelled life after t
  together (Ok x) records after ok err = over after (kept.all_recorded r records after s ok has)
  together (Err fault) records after ok err = refused_together records fault after err

  -- ---- what is laid ahead, or settled

  pub ahead : {X Y : Type 0} (result : Result X Y) (after : DiskRecorder D) → OnOk result (LaysAhead modelled life r after) → OnErr result (FailsAhead modelled life r after) → HasPages modelled life after t
  ahead (Ok x) after ok err = over after (kept.laid_ahead r after s ok has)
  ahead (Err e) after ok err = over after (kept.not_laid r after s err has)

  -- ---- the step

  pub taken : (old : CoreState) (conversation : ℕ) (k : Call) (said : Answer) (new : CoreState) (after : DiskRecorder D) → Takes (Records modelled life) old conversation k said new r after → HasPages modelled life after t
  taken old conversation k said new after takes = made _ after takes.recorded

  plain_step : (old : CoreState) (conversation : ℕ) (k : Call) (said : Answer) (new : CoreState) (after : DiskRecorder D) → Steps (Records modelled life) (Fails modelled life) old conversation k said new r after → HasPages modelled life after t
  plain_step old conversation k said new after (inl takes) = taken old conversation k said new after takes
  plain_step old conversation k said new after (inr is) = refused _ is.fault after is.cause

  unread : (error_is : ReadError) (after : DiskRecorder D) → LeavesReader {A = Unit {0}} (Reads modelled life) (FailsToRead modelled life) r (Err error_is) after → HasPages modelled life after t
  unread read.NoMemory after reads = over after (reads.pages s has)
  unread read.DeviceFailed after fails = over after (fails.pages s has)

  looked : (old : CoreState) (conversation : ℕ) (k : Call) (said : Answer) (new : CoreState) (after : DiskRecorder D) → core.Looks modelled (Reads modelled life) (FailsToRead modelled life) old conversation k said new r after → HasPages modelled life after t
  looked old conversation k said new after (inl takes) = over after (takes.read.pages s has)
  looked old conversation k said new after (inr vain) = unread vain.error after vain.read

  pub step : (old : CoreState) (conversation : ℕ) (k : Call) (said : Answer) (new : CoreState) (after : DiskRecorder D)
      → core.StepsOver modelled (Records modelled life) (Fails modelled life) (Reads modelled life) (FailsToRead modelled life) old conversation k said new r after → HasPages modelled life after t
  step old conversation k said new after (inl steps) = plain_step old conversation k said new after steps
  step old conversation k said new after (inr looks) = looked old conversation k said new after looks.1
