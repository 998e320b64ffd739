-- `with` makes the empty struct, with the notes that its clause names. Assumes `Logic`.
use Rattle.std.proofs.Common.{List, [], ◌∷◌, ◌++◌, length, refl}
use seplogic.Ra.Ura.{Ura}
use mir.Syntax.{Args, Dict, Fn, a_type, dcons, dnil, named}
use mir.Val.{Val, vptr, vstruct, vnil}
use mir.MapTy.{inst_fn}
use base.Logic.{SProp, via, fst∗}
use prog.Memory.{Memory}
use prog.Routine.{Routine}
use prog.Wp.{Calls, Loops, WpFn, Tables}
use types.Logic.{Logic}
use contract.Monad.{Fun}
use contract.Running.{tables, tables_of}
use sound.WpLaws.{WpFn-mono}
use types.Kit.{‵, raw, ◌$◌, ◌∵◌, !, qed, move, suffices, done}
use types.Run.{no_more, returns, enter}
use types.Part.{agg}
use types.ByLocal.{alloc_all, pass_all, free_all, look_at, sets}
use denote.Builtin.{u8}
use denote.Exit.{yes}
use denote.Param.{param, bounded}
use denote.RattleType.{RattleType, owns}
use denote.Ref.{shr_vals, shr_Tells}
use denote.Shadow.{pure_i}
use denote.Signature.{plain, types_at}
use denote.Slice.{slice_val, shr_slice_vals, shr_slice_Tells}
use denote.Triple.Clauses.{Ended, Clauses}
use denote.Triple.Entry.{alive}
use denote.Triple.Spec.{Meets, triple_of}
use denote.Triple.Table.{entered}
use denote.Triple.Walked.{says, stay_none_ref, stay_none_slice, Stays, Walks, ends_at, walked, Goes-none_ref, Goes-none_slice, walk_Meets}
use Rattle.osm_outside.specs.declared.notes.Notes.{Notes}
use Rattle.osm_outside.specs.declared.outside.Sink.{Ghosts}
use Rattle.osm_outside.specs.contracts.notes.Notes as made
use Rattle.osm_outside.specs.contracts.notes.Notes.with as f
use Rattle.osm_outside.specs.contracts.notes.Notes.with.Key.{name as key}
use Rattle.osm_outside.proofs.notes.Notes.with.Statement as stated
use Rattle.osm_outside.proofs.notes.Notes.with.Code as code

module _ (K : RattleType) (G : Ghosts K.Denot) (d : Dict) where
  abbrev args : Args
  args = bounded (a_type ∷ []) (K, tt) (dcons d dnil)

  abbrev function : Fn
  function = inst_fn args code.function

  abbrev it : Ended
  it = f.ended K G d

  abbrev stayed : Stays it.signature.params it.kept
  stayed = (stay_none_ref (0 ∷ []) tt (plain (λ _. made.the_row)) yes, (stay_none_slice (1 ∷ []) tt (plain (λ _. u8)) yes, (stay_none_ref (2 ∷ []) tt (plain (λ _. param 0 K)) yes, tt)))

  module _ {M : Type 1} {𝓤 : Ura M} (𝓛 : Logic 𝓤) (mem : Memory → SProp 𝓤) (run : Routine → Fun 𝓤) where
    open 𝓛 use {H}

    abbrev held : Clauses 𝓤 it
    held = f.clauses K G d 𝓛 mem run

    module _ (C : Calls 𝓤 H) (Λ : Loops 𝓤 H) where
      walks : Walks 𝓛 it stayed (WpFn 𝓤 H C Λ function) held
      walks =
          walked 𝓛 it stayed held (WpFn 𝓤 H C Λ function) (λ κs. (shr_vals, (shr_slice_vals, (shr_vals, tt))))
          (λ κs. (shr_Tells (named 0) κs.0 made.the_row, (shr_slice_Tells (named 1) κs.1.0 u8, (shr_Tells (named 2) κs.1.1.0 (param 0 K), tt))))
          (λ κs qs bounds a g are. via 𝓤 _ (fst∗ 𝓤 _ ((held κs a).requires g)) (
          let before : Val = vptr a.0.ref_ptr.0 a.0.ref_ptr.1 in
          let name : Val = slice_val a.1.0.ref_ptr (length a.1.0.now) in
          let out : Val = vptr a.1.1.0.ref_ptr.0 a.1.1.0.ref_ptr.1 in
          let vss : List Val × (List Val × (List Val × Unit {0})) = (before ∷ [], (name ∷ [], (out ∷ [], tt))) in
          let noted : Notes = record { list = a.0.now.list ++ (a.1.0.now, G.taken a.1.1.0.now) ∷ [] } in
          qed 𝓛 (raw (alive 𝓛 it.signature κs qs) ∷ ‵ (owns (types_at it.signature.params κs) a vss) ∷ []) ∵ enter ! C Λ function (before ∷ name ∷ out ∷ []) _ $
          alloc_all ! (λ l. pass_all ! refl ((tt, tt), ((tt, (tt, (record { fits = are.1.0.0.1.0 }, tt))), ((tt, tt), tt))) $ sets ! (agg ! (no_more !)) refl (tt, tt) $
          returns ! (look_at ! 0 refl) $ free_all ! refl $
          suffices ! _ (ends_at 𝓛 it stayed held ((κs, qs, bounds, a, vss), g) (vstruct vnil) noted (tt, (tt, (tt, tt))) (tt, (tt, (tt, tt)))) $
          says ! refl $ pure_i ! (made.the_row.own_val noted (vstruct vnil ∷ [])) ((λ vss. (tt, tt)), tt) ((tt, (refl, tt)), tt) $
          move ! (1 ∷ 2 ∷ 0 ∷ []) $ done !)))

    meets : (𝓣 : Tables 𝓤 H) → Meets 𝓛 it.signature (WpFn 𝓤 H 𝓣.C 𝓣.Λ function) (f.spec K G d 𝓛 mem run)
    meets 𝓣 =
        walk_Meets 𝓛 it stayed (Goes-none_ref 𝓛 4 (0 ∷ []) tt (plain (λ _. made.the_row)) yes, (Goes-none_slice 𝓛 4 (1 ∷ []) tt (plain (λ _. u8)) yes, (Goes-none_ref 𝓛 4 (2 ∷ []) tt (plain (λ _. param 0 K)) yes, tt))) held (WpFn 𝓤 H 𝓣.C 𝓣.Λ function)
        (WpFn-mono 𝓤 H 𝓛.laws 𝓣 function) (walks 𝓣.C 𝓣.Λ)

pub with_spec : {M : Type 1} → stated.statement M
unfolding tables_of
with_spec 𝓤 𝓛 𝓜 𝓡 wired K LK G d bound =
    entered 𝓤 𝓛.H (triple_of 𝓛 (f.signature K) (f.spec K G d 𝓛 𝓜.mem 𝓡.returns))
    (tables 𝓤 𝓛.H 𝓜 𝓡 𝓡.env).C (tables 𝓤 𝓛.H 𝓜 𝓡 𝓡.env).Λ (key (args K G d)) (function K G d) (code.unfolded 𝓤 𝓛.H 𝓜 𝓡 wired (K, tt) d)
    (meets K G d 𝓛 𝓜.mem 𝓡.returns (tables_of 𝓤 𝓛.H 𝓜 (tables 𝓤 𝓛.H 𝓜 𝓡 𝓡.env)))
