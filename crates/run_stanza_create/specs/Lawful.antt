-- What the proof of the stages needs of that. Own.
use Rattle.std.specs.Prelude.{◌≢◌, ◌⊎◌, Option, refl}
use Rattle.std.proofs.Common.{◌∙◌, inl, inr, arith}
use Rattle.base_disk.proofs.Changes.{only_rests, only_on}
use Rattle.base_model.specs.Steps.{StanzaCreate}
use Rattle.repo_stanza.specs.Owned.{IsOfPairs}
use Rattle.server_talk.specs.Sends.{Ended}
use Rattle.cmd_types.specs.declared.stages.object.Object.{Object}
use Rattle.cmd_types.specs.declared.stages.object.Object.TheVariants.{Server as TheServer}
use Rattle.cmd_stanza_create.specs.declared.fault.CreateFault.{CreateFault}
use Rattle.cmd_stanza_create.specs.declared.fault.CreateFault.TheVariants.{Server as Talked, InfoDamaged, HistoryDiffers, StanzaMismatch, ArchiveLost, FilesFound}
use Rattle.cmd_stanza_create.specs.Deciding.{one_there}
use Rattle.cmd_stanza_create.specs.Server.{Server}
use Rattle.cmd_stanza_create.specs.Texts.{create_status}
use Rattle.cmd_stanza_create.proofs.Statuses.{server_not_found, create_over, create_closed, closes_as}
use Rattle.cmd_trait.specs.KnownWorld.{KnownWorld}
use Rattle.cmd_trait.specs.Meaning.{IsLawful, EndsTalk, apart}
use Rattle.run_stanza_create.specs.Creating.{create_meaning}

not_found : (fault : CreateFault) → create_status fault ≢ 65
not_found (Talked fault) = server_not_found fault
not_found (InfoDamaged name main copy) = λ is. absurd (omega (arith, is))
not_found (HistoryDiffers at) = λ is. absurd (omega (arith, is))
not_found (StanzaMismatch kept found) = λ is. absurd (omega (arith, is))
not_found (ArchiveLost label) = λ is. absurd (omega (arith, is))
not_found (FilesFound name) = λ is. absurd (omega (arith, is))

-- the talk was ended, or the connection failed
ended : (old new : KnownWorld) (failed : Object → Type 0) (fault : CreateFault) → Ended new.server.sent ⊎ failed TheServer → EndsTalk old new failed (create_status fault)
ended old new failed fault (inl end) = inl end
ended old new failed fault (inr rose) = inr (inl rose)

-- the laws of stanza-create
pub create_lawful : (server : Option Server) → IsLawful (create_meaning server)
create_lawful server = record {
  some = λ p old new same. tt;
  healed = λ p old new repo heals P h. h;
  more = λ p old new failed others to fault h. h;
  closes_more = λ p old new repo failed others to fault h. closes_as (failed TheServer) (others TheServer) new.server.sent (to TheServer) fault h;
  arguments_closes = λ p old failed fault h. absurd h;
  repo_none = λ p least b k still. only_rests (IsOfPairs p.stanza) b k still.time still.now;
  repo_on = λ p least b c k still h. only_on (IsOfPairs p.stanza) b c k (only_rests (IsOfPairs p.stanza) b c still.time still.now) h;
  folder_none = λ p old. refl;
  folder_on = λ p old repo nodes same h. h;
  others_none = λ p others. refl;
  turned_none = λ p old new n nodes same. (nodes, same);
  turned_on = λ p old new repo n same h. (h.0, h.1 ∙ same);
  over = create_over;
  not_found = not_found;
  early = λ fault h. refl;
  no_control = λ none. absurd (apart none);
  no_spool = λ none. refl;
  talk = λ p old new failed fault is same closes. ended old new failed fault (create_closed (failed TheServer) new.server.sent fault is closes);
  there = λ p old new known turns P on. one_there StanzaCreate old.nodes P known on;
  through = λ is p old new. tt;
  opens_only = λ off. absurd (apart off);
  lasts_alone = λ off p nodes repo now_nodes outcome. absurd (apart off);
  acknowledges_on = λ p b c k read h. h;
}
