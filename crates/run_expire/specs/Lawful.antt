-- What the proof of the stages needs of that. Own.
use Rattle.std.specs.Prelude.{◌≡◌, ◌≢◌, ◌≤◌, ◌⊎◌, true, ℕ, refl}
use Rattle.std.proofs.Common.{inr, arith}
use Rattle.base_model.specs.Steps.{Command, Expire}
use Rattle.expire_rules.specs.declared.rules.Rules.{Rules}
use Rattle.expire_make.specs.Expiry.{retention}
use Rattle.cmd_expire.specs.declared.fault.ExpireCommandFault.{ExpireCommandFault}
use Rattle.cmd_expire.specs.declared.fault.ExpireCommandFault.TheVariants.{HistoryDiffers}
use Rattle.cmd_expire.specs.Faults.{expire_early}
use Rattle.cmd_expire.specs.Texts.{expire_status}
use Rattle.cmd_expire.specs.Pruning.{IsExpiryBy}
use Rattle.cmd_expire.proofs.Changing.{expires_still, expires_on}
use Rattle.cmd_expire.proofs.Moments.{some_moment}
use Rattle.cmd_trait.specs.Meaning.{IsLawful, apart, IsEarly, quiet_talk}
use Rattle.run_expire.specs.Expiring.{expire_meaning}

-- an expiry at a moment by which the rules may be read
some_expiry : (rules : Rules) (first last : ℕ) → (command : Command) × IsExpiryBy rules first last command
some_expiry rules first last =
    let m = some_moment rules.full first last in (Expire (retention rules m.0), (m.0, m.1, refl))

over : (fault : ExpireCommandFault) → 2 ≤ expire_status fault
over (HistoryDiffers at) = omega arith

not_found : (fault : ExpireCommandFault) → expire_status fault ≢ 65
not_found (HistoryDiffers at) = λ e. absurd (omega (arith, e))

no_server : (fault : ExpireCommandFault) → (expire_status fault ≤ 46) ⊎ (52 ≤ expire_status fault)
no_server (HistoryDiffers at) = inr (omega arith)

early : (fault : ExpireCommandFault) → IsEarly (expire_status fault) → expire_early fault ≡ true
early (HistoryDiffers at) h = refl

-- the laws of expire
pub expire_lawful : (rules : Rules) → IsLawful (expire_meaning rules)
expire_lawful rules = record {
  some = λ p old new same. some_expiry rules old.clock.least new.clock.least;
  healed = λ p old new repo heals P h. h;
  more = λ p old new failed others to fault h. h;
  closes_more = λ p old new repo failed others to fault h. tt;
  arguments_closes = λ p old failed fault h. tt;
  repo_none = λ p least b k still. expires_still p.stanza rules least b k still;
  repo_on = λ p least b c k still h. expires_on p.stanza rules least b c k still h;
  folder_none = λ p old. refl;
  folder_on = λ p old repo nodes same h. h;
  others_none = λ p others. refl;
  turned_none = λ p old new n nodes same. nodes;
  turned_on = λ p old new repo n same h. h;
  over = over;
  not_found = not_found;
  early = early;
  no_control = λ none. refl;
  no_spool = λ none. refl;
  talk = λ p old new failed fault is same closes.
      quiet_talk old new failed (expire_status fault) (no_server fault) is same;
  there = λ p old new known turns P on. on;
  through = λ is p old new. tt;
  opens_only = λ off. absurd (apart off);
  lasts_alone = λ off p nodes repo now_nodes outcome. absurd (apart off);
  acknowledges_on = λ p b c k read h. h;
}
