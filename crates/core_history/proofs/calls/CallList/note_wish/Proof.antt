-- An empty body, as that of `note`. The borrow is opened and closed at another ghost value.
use Rattle.std.proofs.Common.{[], ◌∷◌, ◌++◌, refl, w64}
use Rattle.std.proofs.raw_atomic.Walks.{proved}
use mir.Syntax.{named}
use mir.Val.{vunit}
use base.Logic.{id⊢}
use base.Fml.{ftrue, flft}
use types.Kit.{‵, ◌⊛◌, ◌$◌, ◌∵◌, !, qed, done, move, keep, use1, split, join, fsplit3, feq_i, suffices, frame, group}
use types.Run.{unit_lit, of_opd, returns, enter}
use types.ByLocal.{alloc_all, pass_all, free_all, look_at, sets}
use denote.Exit.{yes}
use denote.Plain.{uint_vals, uint_Tells, bool_vals, bool_Tells}
use denote.Builtin.{u64, bool}
use denote.RattleType.{owns}
use denote.Ref.{MutRef, ShrRef, mut_vals, mut_Tells, shr_vals, shr_Tells}
use denote.Signature.{plain}
use denote.Steps.{opens, closes}
use denote.Triple.Walked.{Stays, walk_of, says, stay_none, Goes-none, stay_none_ref, Goes-none_ref, stay_ref, Goes-ref, ends_at}
use Rattle.serializability.specs.Answered.{AnsweredCall}
use Rattle.core_history.specs.Wishes.{listed_wish}
use Rattle.core_history.specs.declared.calls.CallList.{CallList}
use Rattle.core_history.specs.contracts.calls.CallList.{the_row as R}
use Rattle.core_history.specs.contracts.calls.CallList.note_wish as f
use Rattle.unit_records.specs.contracts.group_call.Asked as asked
use Rattle.core_history.proofs.calls.CallList.note_wish.Statement.{statement}
use Rattle.core_history.proofs.calls.CallList.note_wish.Code as code

abbrev stayed : Stays f.ended.signature.params f.ended.kept
stayed = (stay_ref (0 ∷ []) tt (plain (λ _. R)), (stay_none (λ _. u64) yes, (stay_none_ref (1 ∷ []) tt (plain (λ _. asked.the_row)) yes, (stay_none (λ _. bool) yes, tt))))

pub note_wish_spec : {M : Type 1} → statement M
note_wish_spec 𝓤 𝓛 𝓜 𝓡 wired =
    let c = f.clauses 𝓛 𝓜.mem 𝓡.returns in let W = walk_of 𝓛 f.ended stayed c in
    proved 𝓛 f.ended stayed c 𝓜 𝓡 (
      Goes-ref 𝓛 2 0 tt (plain (λ _. R)),
      (
        Goes-none 𝓛 2 (λ _. u64) yes (λ κs x w. refl),
        (Goes-none_ref 𝓛 2 (1 ∷ []) tt (plain (λ _. asked.the_row)) yes, (Goes-none 𝓛 2 (λ _. bool) yes (λ κs x w. refl), tt)),
      ),
    )
    f.Key.name code.function (code.unfolded 𝓤 𝓛.H 𝓜 𝓡 wired)
    (λ κs. (mut_vals, (uint_vals w64, (shr_vals, (bool_vals, tt)))))
    (λ κs. (mut_Tells (named 0) κs.0 R, (uint_Tells w64, (shr_Tells (named 1) κs.1.0 asked.the_row, (bool_Tells, tt)))))
    (λ κs qs bounds a _ are.
    let b = a.0.ref_ptr.0 in let o = a.0.ref_ptr.1 in let h = a.0.now in let vs = mut_vals a.0 in
    let more : AnsweredCall = listed_wish a.1.0 a.1.1.0.now a.1.1.1.0 in
    let h' : CallList = record h { listed = h.listed ++ more ∷ [] } in
    let y : W.Ghost = ((κs, qs, bounds, a, (vs, (uint_vals w64 a.1.0, (shr_vals a.1.1.0, (bool_vals a.1.1.1.0, tt))))), tt) in
    let rest = owns (u64 ∷ ShrRef (named 1) κs.1.0 asked.the_row ∷ bool ∷ []) a.1 y.0.4.1 in
    let tokens = ‵ (flft κs.1.0 qs.1.0) ⊛ ‵ ftrue in
    qed 𝓛 (((‵ (flft κs.0 qs.0) ⊛ tokens) ⊛ ‵ ((MutRef (named 0) κs.0 R).own_val a.0 vs) ⊛ ‵ rest) ∷ ‵ ftrue ∷ []) ∵
    split ! $ split ! $ move ! (2 ∷ []) $ split ! $ keep ! (0 ∷ 2 ∷ 3 ∷ 1 ∷ []) $
    enter ! _ _ _ _ _ $ alloc_all ! (λ l. pass_all ! refl ((tt, tt), ((tt, record { fits = are.1.0.1 }), ((tt, tt), ((tt, tt), tt)))) $
    fsplit3 ! $ move ! (1 ∷ 2 ∷ 3 ∷ []) $ opens ! tt R b o (λ us.
    sets ! (of_opd ! (unit_lit !)) refl (tt, tt) $
    move ! (1 ∷ []) $ use1 𝓛 (‵ (R.own_val h' us)) (id⊢ 𝓤 _) $ move ! (1 ∷ 0 ∷ []) $ closes ! tt R h' us b o $
    -- [two parts of self; the token; self's first part; the other tokens; the other parameters]
    returns ! (look_at ! 0 refl) $ free_all ! refl $ move ! (3 ∷ []) $
    suffices ! _ (ends_at 𝓛 f.ended stayed c y vunit tt (h', (tt, (tt, (tt, tt)))) (tt, (tt, (tt, (tt, tt))))) $ says ! refl $
    group ! 3 $ move ! (0 ∷ 3 ∷ []) $ join ! $ move ! (1 ∷ 2 ∷ []) $ join ! $ frame ! $ frame ! $
    feq_i ! _ (vunit ∷ []) _ refl $ done !)))
