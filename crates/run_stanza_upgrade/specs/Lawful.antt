-- What the proof of the stages needs of that. Own.
use Rattle.std.specs.Prelude.{Option, refl}
use Rattle.std.proofs.Common.{◌∙◌}
use Rattle.base_disk.proofs.Changes.{only_rests, only_on}
use Rattle.base_model.specs.Steps.{StanzaUpgrade}
use Rattle.repo_stanza.specs.Owned.{IsOfPairs}
use Rattle.cmd_types.specs.declared.stages.object.Object.TheVariants.{Server as TheServer}
use Rattle.cmd_stanza_create.specs.Deciding.{one_there}
use Rattle.cmd_stanza_create.specs.Server.{Server}
use Rattle.cmd_stanza_upgrade.proofs.Statuses.{upgrade_over, upgrade_not_found, upgrade_closed, closes_as}
use Rattle.cmd_trait.specs.Meaning.{IsLawful, apart}
use Rattle.run_stanza_upgrade.specs.Upgrading.{upgrade_meaning}

-- the laws of stanza-upgrade
pub upgrade_lawful : (server : Option Server) → IsLawful (upgrade_meaning server)
upgrade_lawful server = record {
  some = λ p old new same. tt;
  healed = λ p old new repo heals P h. h;
  more = λ p old new failed others to fault h. h;
  closes_more = λ p old new repo failed others to fault h. closes_as (failed TheServer) (others TheServer)
      old.server.sent new.server.sent (to TheServer) fault h;
  arguments_closes = λ p old failed fault h. absurd h;
  repo_none = λ p least b k still. only_rests (IsOfPairs p.stanza) b k still.time still.now;
  repo_on = λ p least b c k still h. only_on (IsOfPairs p.stanza) b c k
      (only_rests (IsOfPairs p.stanza) b c still.time still.now) h;
  folder_none = λ p old. refl;
  folder_on = λ p old repo nodes same h. h;
  others_none = λ p others. refl;
  turned_none = λ p old new n nodes same. (nodes, same);
  turned_on = λ p old new repo n same h. (h.0, h.1 ∙ same);
  over = upgrade_over;
  not_found = upgrade_not_found;
  early = λ fault h. refl;
  no_control = λ none. absurd (apart none);
  no_spool = λ none. refl;
  talk = λ p old new failed fault is same closes. upgrade_closed (failed TheServer) old.server.sent new.server.sent
      fault is closes;
  there = λ p old new known turns P on. one_there StanzaUpgrade old.nodes P known on;
  through = λ is p old new. tt;
  opens_only = λ off. absurd (apart off);
  lasts_alone = λ off p nodes repo now_nodes outcome. absurd (apart off);
  acknowledges_on = λ p b c k read h. h;
}
