-- What a command does after calls that only read.
use Rattle.std.proofs.Common.{◌≡◌, [], Option, true, false, sym, subst}
use Rattle.std.specs.Prelude.{IsSome}
use Rattle.base_devices.specs.Content.{Content}
use Rattle.base_devices.specs.Moments.{View, LeavesNoMore}
use Rattle.base_model.specs.Text.{Text}
use Rattle.base_model.specs.Now.{NowEffect}
use Rattle.base_model.specs.Steps.{Command, steps_of}
use Rattle.base_model.proofs.Done.{part_none}
use Rattle.base_model.proofs.Steady.{steady_rests, prefix_moves}
use Rattle.cmd_types.specs.declared.stages.plan.SyncScope.TheVariants.{Whole}
use Rattle.cmd_types.specs.DisksEffect.{Reached, turns_of, IsPart, DoesPart, DoesWhole, RepoEffect}
use Rattle.cmd_types.proofs.Lifted.{all_as, none_as}

pub part_after : (stanza : Text) (command : Command) (a b d : View) → LeavesNoMore a b → b.now ≡ a.now → DoesPart Whole stanza command b d → DoesPart Whole stanza command a d
part_after stanza command a b d rests same h = record {
  part = subst (λ (o : Option Content). NowEffect stanza command false o d.now) same h.part;
  goes = λ r some steady sound. prefix_moves stanza r (IsPart stanza command r) a b d rests steady (λ g represents. ([], part_none (steps_of command r), represents, sound))
      (h.goes r (subst (λ (o : Option Content). IsSome o) (sym same) some) (steady_rests stanza r a b rests same steady) sound);
}

pub whole_after : (stanza : Text) (command : Command) (a b d : View) → LeavesNoMore a b → b.now ≡ a.now → DoesWhole Whole stanza command b d → DoesWhole Whole stanza command a d
whole_after stanza command a b d rests same h = record {
  done = subst (λ (o : Option Content). NowEffect stanza command true o d.now) same h.done;
  ends = λ r some steady sound. h.ends r (subst (λ (o : Option Content). IsSome o) (sym same) some) (steady_rests stanza r a b rests same steady) sound;
}

pub does_after : (stanza : Text) (command : Command) (reached : Reached) (a b d : View) → LeavesNoMore a b → b.now ≡ a.now → RepoEffect Whole stanza command reached b d → RepoEffect Whole stanza command reached a d
does_after stanza command reached a b d rests same h = record {
  part = part_after stanza command a b d rests same h.part;
  whole = all_as reached (DoesWhole Whole stanza command b d) (DoesWhole Whole stanza command a d) (whole_after stanza command a b d rests same) h.whole;
  turned = none_as reached (DoesPart Whole stanza (turns_of command) b d) (DoesPart Whole stanza (turns_of command) a d) (part_after stanza (turns_of command) a b d rests same) h.turned;
}
