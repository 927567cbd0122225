use Rattle.std.proofs.Common.{◌≡◌, ℕ, true, refl, sym, ap, ◌∙◌, subst}
use Rattle.nvm_space.specs.Inside.Parts.{reply_told}
use Rattle.nvm_space.specs.Inside.Replying.{RepliesTo}
use Rattle.nvm_space.specs.Trace.{DoesJob}
use Rattle.nvm_space.specs.UnderWay.{UnderWay, next_unit}
use Rattle.nvm_space.proofs.NextParts.{same_part, same_under_way}
use Rattle.nvm_space.proofs.under_way.JobUnderWay.replied.Goals as goal

pub of-requires : goal.of-requires
of-requires c =
    let ns = c.args.geometry.now in
    let job = c.args.job.now in
    let w : UnderWay = record { number = c.self.inside.number; lba = c.self.inside.lba; parts = c.self.inside.parts.items; bytes = c.self.inside.bytes.items; room = c.self.inside.parts.capacity } in
    let asked = c.requires.replies in
    let here = subst (λ (x : UnderWay). RepliesTo ns c.args.lists job x (reply_told (next_unit ns x) c.args.reply) asked.0 asked.1 asked.2) (sym c.self.view_is) asked.3 in
    let follows = c.parts_follow_parts.ensures ns c.args.lists job w c.args.reply asked.0 asked.1 asked.2 _ _ _ (here, c.gathered-result.ensures (next_unit ns w)) in
    follows.told (λ ok. let bad = c.if-not-is_success.ensures.1 ok in cc bad)

pub returns-then-not-is_success-clause-progress : goal.returns-then-not-is_success-clause-progress
returns-then-not-is_success-clause-progress c = λ start now new replies.
    let ns = c.args.geometry.now in
    let job = c.args.job.now in
    let w : UnderWay = record { number = c.self.inside.number; lba = c.self.inside.lba; parts = c.self.inside.parts.items; bytes = c.self.inside.bytes.items; room = c.self.inside.parts.capacity } in
    let here = subst (λ (x : UnderWay). RepliesTo ns c.args.lists job x (reply_told (next_unit ns x) c.args.reply) start now new) (sym c.self.view_is) replies in
    let unit : c.args.lists ≡ true → c.args.region ≡ next_unit ns w = λ on. c.requires.listed on ∙ sym (ap (λ (x : UnderWay). next_unit ns x) c.self.view_is) in
    let listed = c.list_part.ensures.items ∙ same_part c.args.lists w.parts c.args.region (next_unit ns w) _ _ unit in
    let follows = c.parts_follow_parts.ensures ns c.args.lists job w c.args.reply start now new _ _ _ (here, c.gathered-result.ensures (next_unit ns w)) in
    subst (λ (n : ℕ). DoesJob ns c.args.lists n job start new c.of.result) (ap (λ (x : UnderWay). x.number) c.self.view_is)
    (follows.stopped c.of.result (λ ok. let bad = c.if-not-is_success.ensures.1 ok in cc bad) (c.of.ensures.0, c.of.ensures.1 ∙ listed))

pub returns-in-Some-clause-progress : goal.returns-in-Some-clause-progress
returns-in-Some-clause-progress c = λ start now new replies.
    let ns = c.args.geometry.now in
    let job = c.args.job.now in
    let w : UnderWay = record { number = c.self.inside.number; lba = c.self.inside.lba; parts = c.self.inside.parts.items; bytes = c.self.inside.bytes.items; room = c.self.inside.parts.capacity } in
    let here = subst (λ (x : UnderWay). RepliesTo ns c.args.lists job x (reply_told (next_unit ns x) c.args.reply) start now new) (sym c.self.view_is) replies in
    let unit : c.args.lists ≡ true → c.args.region ≡ next_unit ns w = λ on. c.requires.listed on ∙ sym (ap (λ (x : UnderWay). next_unit ns x) c.self.view_is) in
    let listed = c.list_part.ensures.items ∙ same_part c.args.lists w.parts c.args.region (next_unit ns w) _ _ unit in
    let follows = c.parts_follow_parts.ensures ns c.args.lists job w c.args.reply start now new _ _ _ (here, c.gathered-result.ensures (next_unit ns w)) in (
      ap (λ (x : UnderWay). x.number) c.self.view_is,
      same_under_way ns c.args.lists job c.self.inside.number c.in-Some.lba _ c.list_part.new.parts.items c.gathered-result.new.bytes.items c.self.inside.parts.capacity c.list_part.new.parts.capacity start new
          listed c.list_part.ensures.capacity (follows.more c.in-Some.lba (c.if-not-is_success.ensures.0 refl) c.in-Some.ensures.known c.in-Some.ensures.first),
    )

pub returns-in-None-clause-progress : goal.returns-in-None-clause-progress
returns-in-None-clause-progress c = λ start now new replies.
    let ns = c.args.geometry.now in
    let job = c.args.job.now in
    let w : UnderWay = record { number = c.self.inside.number; lba = c.self.inside.lba; parts = c.self.inside.parts.items; bytes = c.self.inside.bytes.items; room = c.self.inside.parts.capacity } in
    let here = subst (λ (x : UnderWay). RepliesTo ns c.args.lists job x (reply_told (next_unit ns x) c.args.reply) start now new) (sym c.self.view_is) replies in
    let unit : c.args.lists ≡ true → c.args.region ≡ next_unit ns w = λ on. c.requires.listed on ∙ sym (ap (λ (x : UnderWay). next_unit ns x) c.self.view_is) in
    let listed = c.list_part.ensures.items ∙ same_part c.args.lists w.parts c.args.region (next_unit ns w) _ _ unit in
    let follows = c.parts_follow_parts.ensures ns c.args.lists job w c.args.reply start now new _ _ _ (here, c.gathered-result.ensures (next_unit ns w)) in
    subst (λ (n : ℕ). DoesJob ns c.args.lists n job start new c.of_success.result) (ap (λ (x : UnderWay). x.number) c.self.view_is)
    (follows.last c.of_success.result (c.if-not-is_success.ensures.0 refl) c.in-None.ensures.none
    (λ op is. let ended = c.of_success.ensures ns op is in (ended.0, ended.1 ∙ listed)))
