-- What a command means that only reads the repository.
use Rattle.std.specs.Prelude.{◌≢◌, ◌≤◌, ◌⊎◌, ℕ, refl}
use Rattle.base_model.specs.Text.{Text}
use Rattle.base_model.specs.Steps.{Reading}
use Rattle.archive_store.specs.Still.{still_on}
use Rattle.cmd_types.specs.declared.stages.outcome.Outcome.{Outcome}
use Rattle.cmd_trait.specs.KnownWorld.{KnownWorld}
use Rattle.cmd_trait.specs.Meaning.{Place, Meaning, IsLawful, usual_meaning, apart as falsely, quiet_talk}

-- It promises this, and is refused for this, with these statuses and messages.
abbrev pub reader_meaning : {F : Type 0} → (Place → KnownWorld → Outcome → Type 0) → (Place → KnownWorld → F → Type 0) → (F → ℕ)
    → (F → Text) → Meaning F
reader_meaning promise cause status message = record (usual_meaning status message) {
  promise = λ p old new outcome. promise p old outcome;
  cause = λ p old new failed fault. cause p old fault;
}

-- its statuses are those of refusals, none of a server's answer
pub reader_lawful : {F : Type 0} (promise : Place → KnownWorld → Outcome → Type 0)
    (cause : Place → KnownWorld → F → Type 0) (status : F → ℕ) (message : F → Text) → ((fault : F) → 2 ≤ status fault)
    → ((fault : F) → status fault ≢ 65)
    → ((fault : F) → (status fault ≤ 46) ⊎ (52 ≤ status fault))
    → IsLawful (reader_meaning promise cause status message)
reader_lawful promise cause status message over apart no_server = record {
  some = λ p old new same. tt;
  healed = λ p old new repo heals P h. h;
  more = λ p old new failed others to fault h. h;
  closes_more = λ p old new repo failed others to fault h. tt;
  arguments_closes = λ p old failed fault h. tt;
  repo_none = λ p least b k still. still;
  repo_on = λ p least b c k still h. still_on b c k still h;
  folder_none = λ p old. refl;
  folder_on = λ p old repo nodes same h. h;
  others_none = λ p others. refl;
  turned_none = λ p old new n nodes same. nodes;
  turned_on = λ p old new repo n same h. h;
  over = over;
  not_found = apart;
  early = λ fault h. refl;
  no_control = λ none. refl;
  no_spool = λ none. refl;
  talk = λ p old new failed fault is same closes. quiet_talk old new failed (status fault) (no_server fault) is same;
  there = λ p old new known turns P on. (Reading, refl, on Reading refl);
  through = λ is p old new. tt;
  opens_only = λ other. absurd (falsely other);
  lasts_alone = λ other p nodes repo now_nodes outcome. tt;
  acknowledges_on = λ p b c k read h. h;
}
