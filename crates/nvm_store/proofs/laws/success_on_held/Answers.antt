use Rattle.nvm_store.proofs.laws.success_on_held.Goals as goal

pub returns : goal.returns
returns c unit op m covered held success n held' =
    rw (c.steps_are_local.ensures.statuses op m n (c.held_media_agree.ensures unit op m n covered held held')) at success
