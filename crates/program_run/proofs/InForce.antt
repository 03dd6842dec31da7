-- What the options say is what is in force.
use Rattle.std.proofs.Common.{◌≡◌, ◌∙◌, ap}
use Rattle.base_model.specs.Text.{Text}
use Rattle.options_read.specs.declared.options.Options.{Options}
use Rattle.options_read.specs.Filled.{AreOptions}
use Rattle.options_read.specs.Settings.{Source}
use Rattle.cmd_expire.specs.Rules.{rules_by}
use Rattle.cmd_trait.specs.Meaning.{Place}
use Rattle.program_run.specs.Asked.{rules_in}

pub rules_are : (o : Options) (s : Source) → AreOptions o s → rules_by o ≡ rules_in s
rules_are o s is =
    let full = is.repo1_retention_full in
    let counts = is.repo1_retention_full_type in
    let diff = is.repo1_retention_diff in
    let archive = is.repo1_retention_archive in
    let kind = is.repo1_retention_archive_type in
    cc

abbrev at : Text → Text → Text → Text → Place
at s d r l = record { stanza = s; data_folder = d; repository = r; lock_folder = l }

pub place_same : (s s' d d' r r' l l' : Text) → s ≡ s' → d ≡ d' → r ≡ r' → l ≡ l' → at s d r l ≡ at s' d' r' l'
place_same s s' d d' r r' l l' a b c e = ap (λ x. at x d r l) a ∙ ap (λ x. at s' x r l) b ∙ ap (λ x. at s' d' x l) c ∙ ap (λ x. at s' d' r' x) e
