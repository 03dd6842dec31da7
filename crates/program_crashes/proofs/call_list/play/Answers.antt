use Rattle.std.proofs.lemmas.Iterator.Adapters.{YieldsList-from_vec}
use Rattle.std.proofs.lemmas.Iterator.Consumers.{YieldsList-end}
use Rattle.std.proofs.Common.{rules, ◌≡◌, ◌∙◌, ◌++◌, ◌∷◌, [], List, sym, subst}
use Rattle.base_crash_lists.specs.Trace.{Call}
use Rattle.program_crashes.specs.declared.call_or_crash.Act.{Act}
use Rattle.program_crashes.specs.declared.call_or_crash.Ended.{Ended}
use Rattle.program_crashes.specs.Acts.{grown}
use Rattle.program_crashes.specs.Lists.{ArePlayed, HaveOthers, logged}
use Rattle.program_crashes.proofs.Carried.{are_there}
use Rattle.program_crashes.proofs.Playing.{map_same, have_more, grown_first, played_more}
use Rattle.program_crashes.proofs.call_list.play.Goals as goal

pub loop-act-preserved : goal.loop-act-preserved
loop-act-preserved c = λ others q earlier before h.
    let w = have_more c.loop-act.yielded c.in-Some.act others in
    let x = c.loop-act.invariant w.0 q earlier before h in
    let y = c.in_ok-next.ensures.plays w.1 q earlier x.0 x.2 in (
      grown (logged c.in-Some.act y.0) x.0,
      subst (λ (es : List Ended). ArePlayed q (c.loop-act.yielded ++ c.in-Some.act ∷ []) es c.args.disks c.in_ok-next.next (before ++ earlier) (grown (logged c.in-Some.act y.0) x.0 ++ earlier)) (sym c.in_ok-note.ensures)
          (subst (λ (calls : List Call). ArePlayed q (c.loop-act.yielded ++ c.in-Some.act ∷ []) (c.loop-act.ended.items ++ c.in_ok-next.how ∷ []) c.args.disks c.in_ok-next.next (before ++ earlier) calls)
          (sym (grown_first (logged c.in-Some.act y.0) x.0 earlier))
          (played_more q c.loop-act.yielded c.loop-act.ended.items c.in-Some.act c.in_ok-next.how c.args.disks c.loop-act.last c.in_ok-next.next (before ++ earlier) (x.0 ++ earlier) y.0 x.1 y.1)),
      y.2,
    )

pub returns : goal.returns
returns c = record {
  plays = λ others q earlier before h.
      let gives = c.into_iter-act-iterator.ensures.into_iter_gives in
      let t = YieldsList-end (YieldsList-from_vec c.args.acts.items gives.0 (search rules)) c.loop-act.yielded c.loop-act.act-iterator c.loop-act.yielded_by c.next.result c.next.new.self c.in-None.is c.next.ensures.steps in
      let all : c.loop-act.yielded ≡ c.args.acts.items = sym (map_same c.loop-act.yielded) ∙ t.0 in
      let x = c.loop-act.invariant (subst HaveOthers (sym all) others) q earlier before h in
      record {
        after = x.0;
        played = subst (λ (xs : List Act). ArePlayed q xs c.loop-act.ended.items c.args.disks c.loop-act.last (before ++ earlier) (x.0 ++ earlier)) all x.1;
        keeps = x.2;
        there = are_there q earlier x.0 _ x.2;
      };
}
