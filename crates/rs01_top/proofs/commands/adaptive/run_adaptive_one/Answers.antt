use Rattle.rs01_top.proofs.commands.adaptive.run_adaptive_one.Goals as goal

pub returns : goal.returns
returns g c = record {
  run = c.tell_turned.ensures c.args.ecc c.args.tries _ _ _ _ (record {
    works = c.read_adaptive_one-read.ensures.works;
    lasts = c.read_adaptive_one-read.ensures.lasts;
    causes = c.read_adaptive_one-read.ensures.causes;
    answers = c.read_adaptive_one-read.ensures.answers;
    untouched = c.read_adaptive_one-read.ensures.untouched;
    refused = c.read_adaptive_one-read.ensures.refused;
    told = c.read_adaptive_one-read.ensures.told;
    stays = c.read_adaptive_one-read.ensures.stays;
  });
}
