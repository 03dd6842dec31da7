-- What a call does that only reads.
use Rattle.std.proofs.Common.{◌≡◌, [], Option, refl, sym, subst}
use Rattle.std.specs.Prelude.{IsSome}
use Rattle.base_devices.specs.Content.{Content}
use Rattle.base_devices.specs.Moments.{View, LeavesNoMore}
use Rattle.base_model.specs.Text.{Text}
use Rattle.base_model.specs.Steps.{Command, Reading, steps_of}
use Rattle.base_model.specs.Now.{NowRepresents}
use Rattle.base_model.specs.Walks.{RepresentsNow}
use Rattle.base_model.proofs.Done.{part_none, nothing_done}
use Rattle.base_model.proofs.Steady.{rests_moves, steady_rests}
use Rattle.base_model.proofs.Walking.{rests_walks, rests_ends}
use Rattle.cmd_types.specs.declared.stages.plan.SyncScope.{SyncScope}
use Rattle.cmd_types.specs.declared.stages.plan.SyncScope.TheVariants.{Whole, Looked}
use Rattle.cmd_types.specs.DisksEffect.{Reached, to_end, turned_back, stopped, turns_of, IsPart, PartEach, WholeEach, Goes, Comes, DoesPart, DoesWhole, RepoEffect}

pub now_known : (stanza : Text) (v : View) → RepresentsNow stanza v → IsSome v.now
now_known stanza v now = subst (λ (o : Option Content). IsSome o) (sym now.now) refl

-- of any command it is a part
rests_go : (how : SyncScope) (stanza : Text) (command : Command) (a d : View) → LeavesNoMore a d → d.now ≡ a.now → Goes how stanza command a d
rests_go Whole stanza command a d rests same = λ r some steady sound. rests_moves stanza r (IsPart stanza command r) a d rests same steady some (λ g represents. ([], part_none (steps_of command r), represents, sound))
rests_go Looked stanza command a d rests same = λ looked. rests_walks stanza a d rests same (PartEach stanza command) (λ f r represents sound. ([], part_none (steps_of command r), represents, sound)) (now_known stanza a looked.now) looked.synced

rests_come : (how : SyncScope) (stanza : Text) (a d : View) → LeavesNoMore a d → d.now ≡ a.now → Comes how stanza Reading a d
rests_come Whole stanza a d rests same = λ r some steady sound. (steady_rests stanza r a d rests same steady, sound)
rests_come Looked stanza a d rests same = λ looked. rests_ends stanza a d rests same (WholeEach stanza Reading) (λ f r represents sound. (represents, sound))

pub rests_part : (how : SyncScope) (stanza : Text) (command : Command) (a d : View) → LeavesNoMore a d → d.now ≡ a.now → DoesPart how stanza command a d
rests_part how stanza command a d rests same = record { part = nothing_done stanza command a.now d.now same; goes = rests_go how stanza command a d rests same }

pub rests_whole : (how : SyncScope) (stanza : Text) (a d : View) → LeavesNoMore a d → d.now ≡ a.now → DoesWhole how stanza Reading a d
rests_whole how stanza a d rests same = record {
  done = record { known = λ some. subst (λ (o : Option Content). IsSome o) (sym same) some; does = λ r from some now. ([], refl, subst (λ (o : Option Content). NowRepresents stanza r o) (sym same) now) };
  ends = rests_come how stanza a d rests same;
}

module _ (how : SyncScope) where
  -- a command that reached no end
  pub rests_does : (stanza : Text) (command : Command) (reached : Reached) (a d : View) → (¬ (reached ≡ to_end)) → LeavesNoMore a d → d.now ≡ a.now → RepoEffect how stanza command reached a d
  rests_does stanza command to_end a d not rests same = absurd (not refl)
  rests_does stanza command turned_back a d not rests same = record { part = rests_part how stanza command a d rests same; whole = tt; turned = rests_part how stanza (turns_of command) a d rests same }
  rests_does stanza command stopped a d not rests same = record { part = rests_part how stanza command a d rests same; whole = tt; turned = tt }

  -- a command that changes nothing
  pub reading_does : (stanza : Text) (reached : Reached) (a d : View) → LeavesNoMore a d → d.now ≡ a.now → RepoEffect how stanza Reading reached a d
  reading_does stanza to_end a d rests same = record { part = rests_part how stanza Reading a d rests same; whole = rests_whole how stanza a d rests same; turned = tt }
  reading_does stanza turned_back a d rests same = record { part = rests_part how stanza Reading a d rests same; whole = tt; turned = rests_part how stanza Reading a d rests same }
  reading_does stanza stopped a d rests same = record { part = rests_part how stanza Reading a d rests same; whole = tt; turned = tt }
