-- What the proof of the stages needs of that. Own.
use Rattle.std.specs.Prelude.{◌≡◌, ◌≢◌, ◌≤◌, ◌⊎◌, ℕ, true, refl}
use Rattle.std.proofs.Common.{inl, inr, arith}
use Rattle.base_model.specs.Steps.{Command}
use Rattle.backup_lemmas.proofs.Reading.{no_files}
use Rattle.cmd_rehearse.specs.declared.fault.RehearseFault.{RehearseFault}
use Rattle.cmd_rehearse.specs.declared.fault.RehearseFault.TheVariants.{StanzaExists, NotEmpty, Step}
use Rattle.cmd_rehearse.specs.Commands.{IsRehearsal, rehearsed, keeps_one}
use Rattle.cmd_rehearse.specs.Faults.{rehearse_early}
use Rattle.cmd_rehearse.specs.Texts.{rehearse_status}
use Rattle.cmd_trait.specs.Meaning.{IsLawful, IsEarly, apart, quiet_talk}
use Rattle.run_rehearse.specs.Rehearsing.{size_by, rehearse_meaning}

some_rehearsal : (number : ℕ) → (command : Command) × IsRehearsal number command
some_rehearsal number = (rehearsed number keeps_one no_files no_files no_files, (no_files, no_files, no_files, refl))

over : (fault : RehearseFault) → 2 ≤ rehearse_status fault
over (StanzaExists stanza) = omega arith
over (NotEmpty path) = omega arith
over (Step fault) = omega arith

not_found : (fault : RehearseFault) → rehearse_status fault ≢ 65
not_found (StanzaExists stanza) = λ is. absurd (omega (arith, is))
not_found (NotEmpty path) = λ is. absurd (omega (arith, is))
not_found (Step fault) = λ is. absurd (omega (arith, is))

-- a later step's refusal has no early status
not_early : ¬ IsEarly 76
not_early (inl first) = absurd (omega (arith, first.1))
not_early (inr (inl later)) = absurd (omega (arith, later.0))
not_early (inr (inr connection)) = absurd (omega (arith, connection))

early : (fault : RehearseFault) → IsEarly (rehearse_status fault) → rehearse_early fault ≡ true
early (StanzaExists stanza) h = refl
early (NotEmpty path) h = refl
early (Step fault) h = absurd (not_early h)

-- nor that of a server's answer
no_server : (fault : RehearseFault) → (rehearse_status fault ≤ 46) ⊎ (52 ≤ rehearse_status fault)
no_server (StanzaExists stanza) = inr (omega arith)
no_server (NotEmpty path) = inr (omega arith)
no_server (Step fault) = inr (omega arith)

-- the laws of rehearse
pub rehearse_lawful : (number : ℕ) → IsLawful (rehearse_meaning number)
rehearse_lawful number = record {
  some = λ p old new same. some_rehearsal (size_by number);
  healed = λ p old new repo heals P h. h;
  more = λ p old new failed others to fault h. h;
  closes_more = λ p old new repo failed others to fault h. tt;
  arguments_closes = λ p old failed fault h. tt;
  repo_none = λ p least b k still. tt;
  repo_on = λ p least b c k still h. tt;
  folder_none = λ p old. inl refl;
  folder_on = λ p old repo nodes same h. h;
  others_none = λ p others. refl;
  turned_none = λ p old new n nodes same. nodes;
  turned_on = λ p old new repo n same h. h;
  over = over;
  not_found = not_found;
  early = early;
  no_control = λ none. refl;
  no_spool = λ none. refl;
  talk = λ p old new failed fault is same closes. quiet_talk old new failed (rehearse_status fault) (no_server fault) is same;
  there = λ p old new known turns P on. on;
  through = λ is p old new. tt;
  opens_only = λ off. absurd (apart off);
  lasts_alone = λ off p nodes repo now_nodes outcome. absurd (apart off);
  acknowledges_on = λ p b c k read h. h;
}
