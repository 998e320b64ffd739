use Rattle.std.proofs.Common.{◌≡◌, ◌≤◌, List, [], ◌++◌, Option, None, Some, ◌∙◌, ap, map, string_bytes, refl, arith}
use Rattle.tool_api.specs.declared.verb.Verb.{Verb}
use Rattle.tool_api.specs.declared.verb.Verb.TheVariants.{Add, Tag, Move, Change, Delete, Erase, Purge, Split, Combine, Reverse, Merge, Import, Resolve, Squeeze, Fuse}
use Rattle.command_line.specs.Words.{CommandLineValue, command_of}
use Rattle.edit_steps.specs.Given.{Given}
use Rattle.edit_steps.specs.Needs.{count_verb}
use Rattle.edit_session.specs.Missed.{MissesBy}
use Rattle.edit_session.specs.Verbs.{IsNew, four_of, four_of_each}
use Rattle.edit_session.specs.contracts.tools.with_four.{dyn-1-ghosts}
use Rattle.edit_session.proofs.Right.{with_verbs}
use Rattle.edit_session.proofs.tools.run_editor.OwnLists.{own-1, lawful-own-1, at-1-1, at-1-2, at-1-3, at-1-4, at-1-5, at-1-6, at-1-7, at-1-8, at-1-9, at-1-10, at-1-11, at-1-12, at-1-13, at-1-14, at-1-15}
use Rattle.edit_session.proofs.tools.run_editor.Goals as goal
use denote.Param.Object.{Made, read_made}

-- A tool that is new is so in its box, of whatever type it is.
is_new : (at : (dyn-1-ghosts (own-1, lawful-own-1)).0.I) (verb : Verb) (i : (dyn-1-ghosts (own-1, lawful-own-1)).0.I) (y : ((dyn-1-ghosts (own-1, lawful-own-1)).0.entry i).0.Denot) (x : ((dyn-1-ghosts (own-1, lawful-own-1)).0.entry at).0.Denot)
    → Made (λ j. ((dyn-1-ghosts (own-1, lawful-own-1)).0.entry j).0.coded.code) ((dyn-1-ghosts (own-1, lawful-own-1)).0.entry at).0.coded.code at i y x
    → IsNew verb (((dyn-1-ghosts (own-1, lawful-own-1)).0.entry at).1.kind x) (((dyn-1-ghosts (own-1, lawful-own-1)).0.entry at).1.done x) (((dyn-1-ghosts (own-1, lawful-own-1)).0.entry at).1.undone x)
    → IsNew verb (((dyn-1-ghosts (own-1, lawful-own-1)).0.entry i).1.kind y) (((dyn-1-ghosts (own-1, lawful-own-1)).0.entry i).1.done y) (((dyn-1-ghosts (own-1, lawful-own-1)).0.entry i).1.undone y)
is_new at verb i y x made new =
    let T = (dyn-1-ghosts (own-1, lawful-own-1)).0 in
    (read_made T (T.entry at) at refl _ (λ j z. j.1.kind z) i y x made ∙ new.0, read_made T (T.entry at) at refl _ (λ j z. j.1.done z) i y x made ∙ new.1, read_made T (T.entry at) at refl _ (λ j z. j.1.undone z) i y x made ∙ new.2)

pub with_four-requires : goal.with_four-requires
with_four-requires g c = record {
  dones = c.no_boxes-tools.ensures.dones;
  undones = c.no_boxes-tools.ensures.undones;
  new = (is_new at-1-1 Add _ _ _ c.into_dyn_box.ensures.1 c.in_ok-first.ensures.first, is_new at-1-1 Add _ _ _ c.into_dyn_box-2.ensures.1 c.in_ok-first.ensures.second, is_new at-1-1 Add _ _ _ c.into_dyn_box-3.ensures.1 c.in_ok-first.ensures.third, is_new at-1-1 Add _ _ _ c.into_dyn_box-4.ensures.1 c.in_ok-first.ensures.fourth);
}

pub with_four-requires-2 : goal.with_four-requires-2
with_four-requires-2 g c = record {
  dones = c.in_ok-tools.ensures.dones;
  undones = c.in_ok-tools.ensures.undones;
  new = (is_new at-1-2 Tag _ _ _ c.into_dyn_box-5.ensures.1 c.in_ok-first-2.ensures.first, is_new at-1-2 Tag _ _ _ c.into_dyn_box-6.ensures.1 c.in_ok-first-2.ensures.second, is_new at-1-2 Tag _ _ _ c.into_dyn_box-7.ensures.1 c.in_ok-first-2.ensures.third, is_new at-1-2 Tag _ _ _ c.into_dyn_box-8.ensures.1 c.in_ok-first-2.ensures.fourth);
}

pub with_four-requires-3 : goal.with_four-requires-3
with_four-requires-3 g c = record {
  dones = c.in_ok-tools-2.ensures.dones;
  undones = c.in_ok-tools-2.ensures.undones;
  new = (is_new at-1-3 Move _ _ _ c.into_dyn_box-9.ensures.1 c.in_ok-first-3.ensures.first, is_new at-1-3 Move _ _ _ c.into_dyn_box-10.ensures.1 c.in_ok-first-3.ensures.second, is_new at-1-3 Move _ _ _ c.into_dyn_box-11.ensures.1 c.in_ok-first-3.ensures.third, is_new at-1-3 Move _ _ _ c.into_dyn_box-12.ensures.1 c.in_ok-first-3.ensures.fourth);
}

pub with_four-requires-4 : goal.with_four-requires-4
with_four-requires-4 g c = record {
  dones = c.in_ok-tools-3.ensures.dones;
  undones = c.in_ok-tools-3.ensures.undones;
  new = (is_new at-1-4 Change _ _ _ c.into_dyn_box-13.ensures.1 c.in_ok-first-4.ensures.first, is_new at-1-4 Change _ _ _ c.into_dyn_box-14.ensures.1 c.in_ok-first-4.ensures.second, is_new at-1-4 Change _ _ _ c.into_dyn_box-15.ensures.1 c.in_ok-first-4.ensures.third, is_new at-1-4 Change _ _ _ c.into_dyn_box-16.ensures.1 c.in_ok-first-4.ensures.fourth);
}

pub with_four-requires-5 : goal.with_four-requires-5
with_four-requires-5 g c = record {
  dones = c.in_ok-tools-4.ensures.dones;
  undones = c.in_ok-tools-4.ensures.undones;
  new = (is_new at-1-5 Delete _ _ _ c.into_dyn_box-17.ensures.1 c.in_ok-first-5.ensures.first, is_new at-1-5 Delete _ _ _ c.into_dyn_box-18.ensures.1 c.in_ok-first-5.ensures.second, is_new at-1-5 Delete _ _ _ c.into_dyn_box-19.ensures.1 c.in_ok-first-5.ensures.third, is_new at-1-5 Delete _ _ _ c.into_dyn_box-20.ensures.1 c.in_ok-first-5.ensures.fourth);
}

pub with_four-requires-6 : goal.with_four-requires-6
with_four-requires-6 g c = record {
  dones = c.in_ok-tools-5.ensures.dones;
  undones = c.in_ok-tools-5.ensures.undones;
  new = (is_new at-1-6 Erase _ _ _ c.into_dyn_box-21.ensures.1 c.in_ok-first-6.ensures.first, is_new at-1-6 Erase _ _ _ c.into_dyn_box-22.ensures.1 c.in_ok-first-6.ensures.second, is_new at-1-6 Erase _ _ _ c.into_dyn_box-23.ensures.1 c.in_ok-first-6.ensures.third, is_new at-1-6 Erase _ _ _ c.into_dyn_box-24.ensures.1 c.in_ok-first-6.ensures.fourth);
}

pub with_four-requires-7 : goal.with_four-requires-7
with_four-requires-7 g c = record {
  dones = c.in_ok-tools-6.ensures.dones;
  undones = c.in_ok-tools-6.ensures.undones;
  new = (is_new at-1-7 Purge _ _ _ c.into_dyn_box-25.ensures.1 c.in_ok-first-7.ensures.first, is_new at-1-7 Purge _ _ _ c.into_dyn_box-26.ensures.1 c.in_ok-first-7.ensures.second, is_new at-1-7 Purge _ _ _ c.into_dyn_box-27.ensures.1 c.in_ok-first-7.ensures.third, is_new at-1-7 Purge _ _ _ c.into_dyn_box-28.ensures.1 c.in_ok-first-7.ensures.fourth);
}

pub with_four-requires-8 : goal.with_four-requires-8
with_four-requires-8 g c = record {
  dones = c.in_ok-tools-7.ensures.dones;
  undones = c.in_ok-tools-7.ensures.undones;
  new = (is_new at-1-8 Split _ _ _ c.into_dyn_box-29.ensures.1 c.in_ok-first-8.ensures.first, is_new at-1-8 Split _ _ _ c.into_dyn_box-30.ensures.1 c.in_ok-first-8.ensures.second, is_new at-1-8 Split _ _ _ c.into_dyn_box-31.ensures.1 c.in_ok-first-8.ensures.third, is_new at-1-8 Split _ _ _ c.into_dyn_box-32.ensures.1 c.in_ok-first-8.ensures.fourth);
}

pub with_four-requires-9 : goal.with_four-requires-9
with_four-requires-9 g c = record {
  dones = c.in_ok-tools-8.ensures.dones;
  undones = c.in_ok-tools-8.ensures.undones;
  new = (is_new at-1-9 Combine _ _ _ c.into_dyn_box-33.ensures.1 c.in_ok-first-9.ensures.first, is_new at-1-9 Combine _ _ _ c.into_dyn_box-34.ensures.1 c.in_ok-first-9.ensures.second, is_new at-1-9 Combine _ _ _ c.into_dyn_box-35.ensures.1 c.in_ok-first-9.ensures.third, is_new at-1-9 Combine _ _ _ c.into_dyn_box-36.ensures.1 c.in_ok-first-9.ensures.fourth);
}

pub with_four-requires-10 : goal.with_four-requires-10
with_four-requires-10 g c = record {
  dones = c.in_ok-tools-9.ensures.dones;
  undones = c.in_ok-tools-9.ensures.undones;
  new = (is_new at-1-10 Reverse _ _ _ c.into_dyn_box-37.ensures.1 c.in_ok-first-10.ensures.first, is_new at-1-10 Reverse _ _ _ c.into_dyn_box-38.ensures.1 c.in_ok-first-10.ensures.second, is_new at-1-10 Reverse _ _ _ c.into_dyn_box-39.ensures.1 c.in_ok-first-10.ensures.third, is_new at-1-10 Reverse _ _ _ c.into_dyn_box-40.ensures.1 c.in_ok-first-10.ensures.fourth);
}

pub with_four-requires-11 : goal.with_four-requires-11
with_four-requires-11 g c = record {
  dones = c.in_ok-tools-10.ensures.dones;
  undones = c.in_ok-tools-10.ensures.undones;
  new = (is_new at-1-11 Merge _ _ _ c.into_dyn_box-41.ensures.1 c.in_ok-first-11.ensures.first, is_new at-1-11 Merge _ _ _ c.into_dyn_box-42.ensures.1 c.in_ok-first-11.ensures.second, is_new at-1-11 Merge _ _ _ c.into_dyn_box-43.ensures.1 c.in_ok-first-11.ensures.third, is_new at-1-11 Merge _ _ _ c.into_dyn_box-44.ensures.1 c.in_ok-first-11.ensures.fourth);
}

pub with_four-requires-12 : goal.with_four-requires-12
with_four-requires-12 g c = record {
  dones = c.in_ok-tools-11.ensures.dones;
  undones = c.in_ok-tools-11.ensures.undones;
  new = (is_new at-1-12 Import _ _ _ c.into_dyn_box-45.ensures.1 c.in_ok-first-12.ensures.first, is_new at-1-12 Import _ _ _ c.into_dyn_box-46.ensures.1 c.in_ok-first-12.ensures.second, is_new at-1-12 Import _ _ _ c.into_dyn_box-47.ensures.1 c.in_ok-first-12.ensures.third, is_new at-1-12 Import _ _ _ c.into_dyn_box-48.ensures.1 c.in_ok-first-12.ensures.fourth);
}

pub with_four-requires-13 : goal.with_four-requires-13
with_four-requires-13 g c = record {
  dones = c.in_ok-tools-12.ensures.dones;
  undones = c.in_ok-tools-12.ensures.undones;
  new = (is_new at-1-13 Resolve _ _ _ c.into_dyn_box-49.ensures.1 c.in_ok-first-13.ensures.first, is_new at-1-13 Resolve _ _ _ c.into_dyn_box-50.ensures.1 c.in_ok-first-13.ensures.second, is_new at-1-13 Resolve _ _ _ c.into_dyn_box-51.ensures.1 c.in_ok-first-13.ensures.third, is_new at-1-13 Resolve _ _ _ c.into_dyn_box-52.ensures.1 c.in_ok-first-13.ensures.fourth);
}

pub with_four-requires-14 : goal.with_four-requires-14
with_four-requires-14 g c = record {
  dones = c.in_ok-tools-13.ensures.dones;
  undones = c.in_ok-tools-13.ensures.undones;
  new = (is_new at-1-14 Squeeze _ _ _ c.into_dyn_box-53.ensures.1 c.in_ok-first-14.ensures.first, is_new at-1-14 Squeeze _ _ _ c.into_dyn_box-54.ensures.1 c.in_ok-first-14.ensures.second, is_new at-1-14 Squeeze _ _ _ c.into_dyn_box-55.ensures.1 c.in_ok-first-14.ensures.third, is_new at-1-14 Squeeze _ _ _ c.into_dyn_box-56.ensures.1 c.in_ok-first-14.ensures.fourth);
}

pub with_four-requires-15 : goal.with_four-requires-15
with_four-requires-15 g c = record {
  dones = c.in_ok-tools-14.ensures.dones;
  undones = c.in_ok-tools-14.ensures.undones;
  new = (is_new at-1-15 Fuse _ _ _ c.into_dyn_box-57.ensures.1 c.in_ok-first-15.ensures.first, is_new at-1-15 Fuse _ _ _ c.into_dyn_box-58.ensures.1 c.in_ok-first-15.ensures.second, is_new at-1-15 Fuse _ _ _ c.into_dyn_box-59.ensures.1 c.in_ok-first-15.ensures.third, is_new at-1-15 Fuse _ _ _ c.into_dyn_box-60.ensures.1 c.in_ok-first-15.ensures.fourth);
}

-- Boxes made one after the other have all verbs four times, and so no step misses its tool.

-- one verb more
more : {before after so_far : List Verb} (v : Verb) → after ≡ before ++ four_of v → before ≡ so_far → after ≡ so_far ++ four_of v
more v one is = one ∙ ap (λ (vs : List Verb). vs ++ four_of v) is

-- the verbs that the boxes have so far, each list one verb more than the one before
all_made : {none a b c d e f g h i j k l m n o : List Verb} → none ≡ [] → a ≡ none ++ four_of Add → b ≡ a ++ four_of Tag → c ≡ b ++ four_of Move → d ≡ c ++ four_of Change → e ≡ d ++ four_of Delete
    → f ≡ e ++ four_of Erase → g ≡ f ++ four_of Purge → h ≡ g ++ four_of Split → i ≡ h ++ four_of Combine → j ≡ i ++ four_of Reverse → k ≡ j ++ four_of Merge → l ≡ k ++ four_of Import → m ≡ l ++ four_of Resolve → n ≡ m ++ four_of Squeeze → o ≡ n ++ four_of Fuse → o ≡ four_of_each
all_made none a b c d e f g h i j k l m n o =
    more Fuse o (more Squeeze n (more Resolve m (more Import l (more Merge k (more Reverse j (more Combine i (more Split h (more Purge g (more Erase f (more Delete e (more Change d (more Move c (more Tag b (more Add a none))))))))))))))

four : (v : Verb) → 4 ≤ count_verb four_of_each v
four Add = omega arith
four Tag = omega arith
four Move = omega arith
four Change = omega arith
four Delete = omega arith
four Erase = omega arith
four Purge = omega arith
four Split = omega arith
four Combine = omega arith
four Reverse = omega arith
four Merge = omega arith
four Import = omega arith
four Resolve = omega arith
four Squeeze = omega arith
four Fuse = omega arith

none_missed : (asked : Option CommandLineValue) (given : List Given) (verb : Verb) → MissesBy asked given four_of_each verb → ⊥
none_missed None given verb missed = missed
none_missed (Some line) given verb missed = let more = four verb in let fewer = missed.four in absurd (omega (arith, more, fewer))

pub run_session-requires : goal.run_session-requires
run_session-requires g c = record { dones = c.in_ok-tools-15.ensures.dones; undones = c.in_ok-tools-15.ensures.undones }

pub returns-clause-right : goal.returns-clause-right
returns-clause-right g c =
    let all = all_made c.no_boxes-tools.ensures.kinds c.in_ok-tools.ensures.kinds c.in_ok-tools-2.ensures.kinds c.in_ok-tools-3.ensures.kinds
    c.in_ok-tools-4.ensures.kinds c.in_ok-tools-5.ensures.kinds c.in_ok-tools-6.ensures.kinds c.in_ok-tools-7.ensures.kinds
    c.in_ok-tools-8.ensures.kinds c.in_ok-tools-9.ensures.kinds c.in_ok-tools-10.ensures.kinds c.in_ok-tools-11.ensures.kinds
    c.in_ok-tools-12.ensures.kinds c.in_ok-tools-13.ensures.kinds c.in_ok-tools-14.ensures.kinds c.in_ok-tools-15.ensures.kinds in
    with_verbs _ _ (map string_bytes c.args.words.now) _ _ c.run_session.result all c.run_session.ensures.right

pub returns-clause-tools : goal.returns-clause-tools
returns-clause-tools g c = λ verb missed. let right = returns-clause-right g c in none_missed (command_of (map string_bytes c.args.words.now)) right.given verb (right.no_tool verb missed)
