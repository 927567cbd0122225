use Rattle.nvm_explain.proofs.part_story.push_part_story.Goals as goal

pub push_part-requires : goal.push_part-requires
push_part-requires c =
    let here = rw c.in-Some-2.is at c.in_ok-at.ensures in
    c.in-Some-job_part_in.ensures.covered _ here.2.lies
