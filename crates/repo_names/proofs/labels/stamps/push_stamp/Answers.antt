use Rattle.std.proofs.Common.{◌≡◌, ◌/◌, ◌%◌, List, ℕ, [], ◌∷◌, ◌++◌, ap, ◌∙◌, append_assoc, string_bytes, lit<}
use Rattle.base_model.specs.Dates.{date_digits, clock_digits, date_after, stamp}
use Rattle.repo_names.proofs.labels.stamps.push_stamp.Goals as goal

joined : (old date clock : List ℕ) → old ++ date ++ 45 ∷ [] ++ clock ≡ old ++ (date ++ 45 ∷ clock)
joined old date clock = append_assoc (old ++ date) (45 ∷ []) clock ∙ append_assoc old date (45 ∷ clock)

pub returns : goal.returns
unfolding stamp
returns c =
    let old = string_bytes c.args.text.now in
    let date = date_digits (date_after (c.args.t / 86400)) in
    let clock = clock_digits (c.args.t % 86400) in
    let prefix : string_bytes c.push_date.new.text ≡ old ++ date = c.in_ok-push_date.ensures ∙ ap (λ d. old ++ date_digits d) c.date_of.ensures in
    let dash : string_bytes c.push.new.self ≡ old ++ date ++ 45 ∷ [] = c.in_ok-push.ensures.bytes ∙ ap (λ e. string_bytes c.push_date.new.text ++ e) (c.in_ok-push.ensures.ascii (lit< tt)) ∙ ap (λ l. l ++ 45 ∷ []) prefix in
    c.in_ok-push_clock.ensures ∙ ap (λ l. l ++ clock) dash ∙ joined old date clock
