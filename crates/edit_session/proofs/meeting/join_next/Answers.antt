use Rattle.edit_session.proofs.meeting.join_next.Goals as goal

pub returns-clause-boxes : goal.returns-clause-boxes
returns-clause-boxes g c = record { own = _; dealt = c.in_ok-dealt.ensures.dealt; joins = c.in_ok-join.ensures.verbs }
