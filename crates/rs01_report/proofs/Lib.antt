mod PushLemmas
mod RunLemmas
mod MaximalLemmas
