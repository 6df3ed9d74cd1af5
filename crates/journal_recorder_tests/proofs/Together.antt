-- The pages of tables can be read behind records that are made together or laid ahead, whatever became of them.
use Rattle.std.proofs.Common.{Bool, List, Result, Ok, Err, IfErr, OnErr, OnOk, sym, subst}
use Rattle.drda_disk.specs.Disk.{Life}
use Rattle.paged_tables.specs.TablesByName.{Tables}
use Rattle.unit_records.specs.Records.{UnitRecord}
use Rattle.unit_records.specs.Together.{FailsTogether}
use Rattle.unit_records.specs.declared.group_error.GroupError.{GroupError}
use Rattle.unit_records.specs.declared.group_error.GroupError.TheVariants.{DeviceFailed, Refused}
use Rattle.journal_recorder.specs.Reading.{HasPages, PagesAreKept}
use Rattle.journal_recorder.specs.Recording.{AreLeftOpen, RecordsAll}
use Rattle.journal_recorder.specs.Ahead.{FailsAhead, LaysAhead}
use Rattle.journal_recorder.specs.declared.recorder.DiskRecorder.{DiskRecorder}

module _ {D : Type 0} (modelled : Bool) (life : D → Life) (kept : PagesAreKept modelled life) (old new : DiskRecorder D) (tables : Tables) (records : List UnitRecord) (has : HasPages modelled life old tables) where
  failed : (error : GroupError) → FailsTogether (AreLeftOpen modelled life) records error old new → HasPages modelled life new tables
  failed Refused same = subst (λ (r : DiskRecorder D). HasPages modelled life r tables) (sym same) has
  failed DeviceFailed left = kept.all_left_open old records new tables left has

  pub has_pages : {A : Type 0} (result : Result A GroupError) → OnOk result (RecordsAll modelled life old records new) → IfErr result (λ error. FailsTogether (AreLeftOpen modelled life) records error old new) → HasPages modelled life new tables
  has_pages (Ok x) made failed_so = kept.all_recorded old records new tables made has
  has_pages (Err error) made failed_so = failed error failed_so

module _ {D : Type 0} (modelled : Bool) (life : D → Life) (kept : PagesAreKept modelled life) (old new : DiskRecorder D) (tables : Tables) (has : HasPages modelled life old tables) where
  pub has_pages_ahead : {A E : Type 0} (result : Result A E) → OnOk result (LaysAhead modelled life old new) → OnErr result (FailsAhead modelled life old new) → HasPages modelled life new tables
  has_pages_ahead (Ok x) laid failed_so = kept.laid_ahead old new tables laid has
  has_pages_ahead (Err error) laid failed_so = kept.not_laid old new tables failed_so has
